-- The clauses of an answer that is the settings of a tree or its first fault.
use Rattle.std.proofs.Common.{◌≡◌, List, ◌++◌, Option, Some, None, Result, Ok, Err, refl, sym, ap, subst, ◌∙◌}
use Rattle.std.specs.Prelude.{◌↔◌, IsOk, IfOk, is_ok}
use Rattle.std.specs.Option.{option_map_or}
use Rattle.std.proofs.lemmas.Bool.{false≢true}
use Rattle.qn_conf.specs.declared.tree.Item.{Item}
use Rattle.qn_model.specs.declared.configuration.Settings.{Settings}
use Rattle.qn_model.specs.Settings.{IsValid}
use Rattle.qn_settings.specs.declared.entries.Entry.{Entry}
use Rattle.qn_settings.specs.declared.faults.SettingsFault.{SettingsFault}
use Rattle.qn_settings.specs.Answer.{answer_of, fault_in, fault_of, filled, settings_of, value_faults, vote_faults}
use Rattle.qn_settings.specs.Entries.{entries_of}
use Rattle.qn_settings.specs.Nodes.{node_faults, nodes_of}
use Rattle.qn_settings.specs.Values.{first_some, or_else}
use Rattle.qn_settings.proofs.FirstLemmas.{first_some-append}
use Rattle.qn_settings.proofs.Validity.{IsValid-filled}

fault_of_is : (tree : List Item) → fault_of tree ≡ fault_in (entries_of tree)
unfolding fault_of
fault_of_is tree = refl

settings_of_is : (tree : List Item) → settings_of tree ≡ filled (nodes_of (entries_of tree)) (entries_of tree)
unfolding settings_of
settings_of_is tree = refl

in_parts :
    (entries : List Entry)
    → fault_in entries
    ≡ or_else (or_else (first_some (value_faults entries)) (first_some (node_faults entries)))
    (first_some (vote_faults (filled (nodes_of entries) entries) entries))
in_parts entries =
    let votes = vote_faults (filled (nodes_of entries) entries) entries
    in first_some-append (value_faults entries ++ node_faults entries) votes
    ∙ ap (λ o. or_else o (first_some votes)) (first_some-append (value_faults entries) (node_faults entries))

chosen : (a b c o : Option SettingsFault) (x y z : Option SettingsFault) → o ≡ or_else (or_else a b) c → a ≡ x → b ≡ y → c ≡ z → o ≡ or_else (or_else x y) z
chosen a b c o x y z is p q r = is ∙ ap (λ v. or_else (or_else v b) c) p ∙ ap (λ v. or_else (or_else x v) c) q ∙ ap (or_else (or_else x y)) r

-- the fault of the first part that has one
pub value_first :
    (tree : List Item) (fault : SettingsFault)
    → first_some (value_faults (entries_of tree)) ≡ Some fault → Err fault ≡ answer_of tree
value_first tree fault e =
    sym (ap (λ o. option_map_or Err o (Ok (settings_of tree))) (fault_of_is tree ∙ chosen _ _ _ _ (Some fault) _ _ (in_parts (entries_of tree)) e refl refl))

pub node_first :
    (tree : List Item) (fault : SettingsFault)
    → first_some (value_faults (entries_of tree)) ≡ None
    → first_some (node_faults (entries_of tree)) ≡ Some fault → Err fault ≡ answer_of tree
node_first tree fault none e =
    sym (ap (λ o. option_map_or Err o (Ok (settings_of tree))) (fault_of_is tree ∙ chosen _ _ _ _ None (Some fault) _ (in_parts (entries_of tree)) none e refl))

pub vote_first :
    (tree : List Item) (fault : SettingsFault) (s : Settings)
    → first_some (value_faults (entries_of tree)) ≡ None
    → first_some (node_faults (entries_of tree)) ≡ None
    → s ≡ filled (nodes_of (entries_of tree)) (entries_of tree)
    → first_some (vote_faults s (entries_of tree)) ≡ Some fault → Err fault ≡ answer_of tree
vote_first tree fault s none no_node is e =
    let at = ap (λ t. first_some (vote_faults t (entries_of tree))) (sym is) ∙ e
    in sym (ap (λ o. option_map_or Err o (Ok (settings_of tree))) (fault_of_is tree ∙ chosen _ _ _ _ None None (Some fault) (in_parts (entries_of tree)) none no_node at))

pub good_answer :
    (tree : List Item) (s : Settings)
    → first_some (value_faults (entries_of tree)) ≡ None
    → first_some (node_faults (entries_of tree)) ≡ None
    → s ≡ filled (nodes_of (entries_of tree)) (entries_of tree)
    → first_some (vote_faults s (entries_of tree)) ≡ None → Ok s ≡ answer_of tree
good_answer tree s none no_node is e =
    let at = ap (λ t. first_some (vote_faults t (entries_of tree))) (sym is) ∙ e
    in ap (λ t. Ok t) (is ∙ sym (settings_of_is tree))
    ∙ sym (ap (λ o. option_map_or Err o (Ok (settings_of tree))) (fault_of_is tree ∙ chosen _ _ _ _ None None None (in_parts (entries_of tree)) none no_node at))

-- the clauses, from the answer
ok_when :
    (o : Option SettingsFault) (s : Settings) (answer : Result Settings SettingsFault)
    → answer ≡ option_map_or Err o (Ok s) → IsOk answer ↔ (o ≡ None)
ok_when None s answer is = (λ yes. refl, λ e. ap is_ok is)
ok_when (Some fault) s answer is = (λ yes. absurd (false≢true (sym (ap is_ok is) ∙ yes)), λ e. cc)

fault_when :
    (o : Option SettingsFault) (s : Settings) (answer : Result Settings SettingsFault)
    → answer ≡ option_map_or Err o (Ok s) → (fault : SettingsFault) → (answer ≡ Err fault) ↔ (o ≡ Some fault)
fault_when None s answer is fault = (λ e. cc, λ e. cc)
fault_when (Some own) s answer is fault = (λ e. cc, λ e. cc)

of_ok :
    (P : Settings → Type 0) (o : Option SettingsFault) (s : Settings) (answer : Result Settings SettingsFault)
    → answer ≡ option_map_or Err o (Ok s) → (o ≡ None → P s) → IfOk answer P
of_ok P None s answer is holds = subst (λ (a : Result Settings SettingsFault). IfOk a P) (sym is) (holds refl)
of_ok P (Some fault) s answer is holds = subst (λ (a : Result Settings SettingsFault). IfOk a P) (sym is) tt

pub ok_exactly :
    (tree : List Item) (answer : Result Settings SettingsFault)
    → answer ≡ answer_of tree → IsOk answer ↔ (fault_of tree ≡ None)
ok_exactly tree answer is = ok_when (fault_of tree) (settings_of tree) answer is

pub fault_exactly :
    (tree : List Item) (answer : Result Settings SettingsFault)
    → answer ≡ answer_of tree → (fault : SettingsFault) → (answer ≡ Err fault) ↔ (fault_of tree ≡ Some fault)
fault_exactly tree answer is = fault_when (fault_of tree) (settings_of tree) answer is

pub settings_are :
    (tree : List Item) (answer : Result Settings SettingsFault)
    → answer ≡ answer_of tree → IfOk answer (λ s. s ≡ settings_of tree)
settings_are tree answer is = of_ok (λ s. s ≡ settings_of tree) (fault_of tree) (settings_of tree) answer is (λ e. refl)

pub valid_when :
    (tree : List Item) (answer : Result Settings SettingsFault) → answer ≡ answer_of tree → IfOk answer IsValid
valid_when tree answer is =
    of_ok IsValid (fault_of tree) (settings_of tree) answer is
    (λ e. subst IsValid (sym (settings_of_is tree)) (IsValid-filled (entries_of tree) (sym (fault_of_is tree) ∙ e)))
