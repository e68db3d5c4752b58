-- A settings text, byte after byte.
use Rattle.std.proofs.Common.{◌≡◌, ◌+◌, ◌==◌, false, ℕ, List, [], ◌∷◌, ◌++◌, Option, Err, refl, sym, ap, ◌∙◌, subst, arith, append_assoc, codes}
use Rattle.std.specs.Io.KnownBytes.{prepend_known}
use Rattle.std.proofs.lemmas.List.Elements.{All-nil}
use Rattle.qn_io.specs.Outside.{prepend_known-append, prepend_known-nil}
use Rattle.qn_model.specs.declared.line_fault.LineFault.TheVariants.{Unended}
use Rattle.qn_model.specs.Lines.{Ending, Ended, ReadFailed}
use Rattle.qn_sched.specs.declared.replay_end.ReplayEnd.{ReplayEnd}
use Rattle.qn_sched.specs.declared.replay_end.ReplayEnd.TheVariants.{BadSchedule, NoMemory, ReadFault}
use Rattle.qn_sched.specs.Head.{dashes}
use Rattle.qn_playback.specs.declared.settings_head.SettingsHead.{SettingsHead}
use Rattle.qn_playback.specs.Heads.{settings_part}
use Rattle.qn_playback.specs.Parts.{IsOpen, LastDecides, Leads, Part, Refuses, Wanted}
use Rattle.qn_playback.specs.PartLaws.{leads_nowhere, leads_then, refuses_at, refuses_ended, refuses_failed, refuses_then}
use Rattle.qn_playback.specs.Texts.{MayGoOn, TakesEnd, TakesMore, TextSoFar, bytes_of, no_text, text_rest, whole_text}
use Rattle.qn_playback.proofs.TextLines.{text_rest-cut}

none_may_go_on : MayGoOn no_text
none_may_go_on = record { inside = All-nil (λ byte. (byte == 10) ≡ false); fits = omega arith; numbered = omega arith }

text_open : (text : TextSoFar) → MayGoOn text → IsOpen (text_rest text) []
text_open text may = text_rest-cut text ReadFailed may.inside may.fits

-- the bytes of the text so far were taken, and it may go on
pub record IsReading (text : TextSoFar) (a b : Option (List ℕ)) : Type 0 where
  pub may_go_on : MayGoOn text
  pub leads : Leads settings_part (text_rest text) a b
  pub takes : a ≡ prepend_known (bytes_of text) b

-- no byte of the text was taken
pub reading_begins : (text : TextSoFar) (to_come : Option (List ℕ)) → text ≡ no_text → IsReading text to_come to_come
reading_begins text to_come is =
    subst (λ (t : TextSoFar). IsReading t to_come to_come) (sym is)
    (record {
      may_go_on = none_may_go_on;
      leads = leads_nowhere settings_part to_come (text_open no_text none_may_go_on);
      takes = sym (prepend_known-nil to_come);
    })

module _ {a b : Option (List ℕ)} (text : TextSoFar) (so_far : IsReading text a b) where
  one_byte : {c : Option (List ℕ)} (byte : ℕ) (rest : Part SettingsHead) → b ≡ prepend_known (byte ∷ []) c
      → ((ending : Ending) (more : List ℕ) → text_rest text ending (byte ∷ more) ≡ rest ending more) → Leads (text_rest text) rest b c
  one_byte byte rest takes same =
      record { taken = byte ∷ []; takes = takes; needed = LastDecides [] byte refl (text_open text so_far.may_go_on); rest = same }

  -- one byte more
  pub reading_goes_on : {c : Option (List ℕ)} (byte : ℕ) (new : TextSoFar) → b ≡ prepend_known (byte ∷ []) c → TakesMore byte text new → IsReading new a c
  reading_goes_on {c} byte new takes more = record {
    may_go_on = more.may_go_on;
    leads = leads_then so_far.leads (one_byte byte (text_rest new) takes more.rest);
    takes =
        so_far.takes ∙ ap (prepend_known (bytes_of text)) takes
        ∙ sym (prepend_known-append (bytes_of text) (byte ∷ []) c)
        ∙ ap (λ t. prepend_known t c) (sym more.longer);
  }

  -- the byte after `----`
  pub reading_is_whole : {c : Option (List ℕ)} (byte : ℕ) (new : TextSoFar) → b ≡ prepend_known (byte ∷ []) c → TakesEnd byte text new
      → Leads settings_part (whole_text new.whole new.lines) a c
  reading_is_whole byte new takes end = leads_then so_far.leads (one_byte byte (whole_text new.whole new.lines) takes end.rest)

  -- the bytes that were taken then
  pub reading_took : (c : Option (List ℕ)) (byte : ℕ) (new : TextSoFar) → b ≡ prepend_known (byte ∷ []) c → TakesEnd byte text new
      → a ≡ prepend_known (new.whole ++ codes "----\n") c
  reading_took c byte new takes end =
      so_far.takes ∙ ap (prepend_known (bytes_of text)) takes
      ∙ sym (prepend_known-append (bytes_of text) (byte ∷ []) c)
      ∙ ap (λ (t : List ℕ). prepend_known ((text.whole ++ t) ++ byte ∷ []) c) end.dashes_read
      ∙ ap (λ (last : ℕ). prepend_known ((text.whole ++ dashes) ++ last ∷ []) c) end.ended
      ∙ ap (λ (t : List ℕ). prepend_known t c) (append_assoc text.whole dashes (10 ∷ []))
      ∙ ap (λ (t : TextSoFar). prepend_known (t.whole ++ codes "----\n") c) (sym end.same)

  -- the byte that is too many
  pub reading_is_too_long : {c : Option (List ℕ)} {at_end failed : Type 0} (byte : ℕ) (end : ReplayEnd) → b ≡ prepend_known (byte ∷ []) c
      → ((ending : Ending) (more : List ℕ) → text_rest text ending (byte ∷ more) ≡ Err end) → Refuses settings_part a c at_end failed end
  reading_is_too_long byte end takes long = refuses_then so_far.leads (refuses_at [] byte end takes (text_open text so_far.may_go_on) long)

  -- the byte for which there was no memory
  pub reading_wants_memory : {c : Option (List ℕ)} {at_end failed : Type 0} (byte : ℕ) → b ≡ prepend_known (byte ∷ []) c → Refuses settings_part a c at_end failed NoMemory
  reading_wants_memory byte takes =
      refuses_then so_far.leads
      (record { taken = byte ∷ []; takes = takes; needed = LastDecides [] byte refl (text_open text so_far.may_go_on); ends = Wanted refl })

  -- the input ended
  pub reading_ends : {c : Option (List ℕ)} {at_end failed : Type 0} (end : ReplayEnd) → c ≡ b → at_end → end ≡ BadSchedule (text.lines + 1) Unended
      → Refuses settings_part a c at_end failed end
  reading_ends {c} end kept at_end is =
      refuses_then so_far.leads
      (refuses_ended [] end (sym kept ∙ sym (prepend_known-nil c)) at_end (text_open text so_far.may_go_on)
      (text_rest-cut text Ended so_far.may_go_on.inside so_far.may_go_on.fits ∙ ap (λ e. Err e) (sym is)))

  -- a read failed
  pub reading_fails : {c : Option (List ℕ)} {at_end failed : Type 0} → c ≡ b → failed → Refuses settings_part a c at_end failed ReadFault
  reading_fails {c} kept failed = refuses_then so_far.leads (refuses_failed [] (sym kept ∙ sym (prepend_known-nil c)) failed (text_open text so_far.may_go_on))
