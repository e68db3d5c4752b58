-- Reading a settings text whole, piece by piece.
use Rattle.std.proofs.Common.{◌≡◌, ◌≤◌, ◌<◌, ◌⊎◌, inl, inr, arith, ℕ, false, List, [], ◌++◌, Result, Ok, Err, length, nat_lt, refl, sym, ap, ◌∙◌, subst, lt-ltb, length-append}
use Rattle.std.specs.Io.KnownBytes.{IsAtEnd, prepend_known}
use Rattle.qn_io.specs.Outside.{prepend_known-append, prepend_known-nil}
use Rattle.qn_conf.specs.declared.faults.ConfFault.TheVariants as conf
use Rattle.qn_model.specs.Lines.{Ending, Ended, ReadFailed}
use Rattle.qn_model.specs.declared.configuration.Settings.{Settings}
use Rattle.qn_commands.specs.declared.fault.Fault.{Fault}
use Rattle.qn_commands.specs.declared.fault.Fault.TheVariants.{BadConf, NoMemory, ReadFault}
use Rattle.qn_commands.specs.InputSettings.{IsWanted, Judges, ReadsWhole, input_settings, input_text, judged_text}
use Rattle.qn_commands.specs.SettingsLaws.{short_text}
use Rattle.qn_commands.specs.Seen.{Input, ReadFails}
use Rattle.qn_commands.specs.Reads.{Tells, Anyway, AtEnd, AtFailure}

long_text : (ending : Ending) (text more : List ℕ) → 1048576 < length text → input_text ending (text ++ more) ≡ Err (BadConf conf.TooLong)
unfolding input_text
long_text ending text more long =
    let longer : 1048576 < length (text ++ more) = omega (arith, length-append text more) in
    rw (lt-ltb 1048576 (length (text ++ more)) longer) refl

module _ (text : List ℕ) (first before after : Input) (takes : first.left ≡ prepend_known text before.left) (short : length text ≤ 1048576) where
  -- a read failed
  pub text_unread : after.left ≡ before.left → ReadFails first after → Judges input_text first after (Err ReadFault)
  text_unread kept fails = record {
    read = text;
    takes = takes ∙ ap (prepend_known text) (sym kept);
    bounded = omega arith;
    judged = inr (AtFailure fails (short_text ReadFailed text short));
  }

  -- the input is at its end
  pub text_ended : before.left ≡ prepend_known [] after.left → IsAtEnd before.left → Judges input_text first after (Ok text)
  text_ended none at_end = record {
    read = text;
    takes = takes ∙ ap (prepend_known text) (none ∙ prepend_known-nil after.left);
    bounded = omega arith;
    judged = inr (AtEnd (subst IsAtEnd (none ∙ prepend_known-nil after.left) at_end) (short_text Ended text short));
  }

  -- and all of it was read
  pub text_whole : before.left ≡ prepend_known [] after.left → IsAtEnd before.left → ReadsWhole first after text
  text_whole none at_end = record {
    takes = takes ∙ ap (prepend_known text) (none ∙ prepend_known-nil after.left);
    at_end = subst IsAtEnd (none ∙ prepend_known-nil after.left) at_end;
    bounded = short;
  }

  module _ (piece : List ℕ) (more : before.left ≡ prepend_known piece after.left) (fits : length piece ≤ 4096) where
    taken_more : first.left ≡ prepend_known (text ++ piece) after.left
    taken_more = takes ∙ ap (prepend_known text) more ∙ sym (prepend_known-append text piece after.left)

    -- the next piece had no room
    pub text_wanted : Judges input_text first after (Err NoMemory)
    text_wanted = record {
      read = text ++ piece;
      takes = taken_more;
      bounded = omega (arith, length-append text piece);
      judged = inl (inl refl);
    }

    -- with the next piece the text is too long
    pub text_too_long : (whole : List ℕ) → whole ≡ text ++ piece → 1048576 < length whole → Judges input_text first after (Err (BadConf conf.TooLong))
    text_too_long whole is long = record {
      read = text ++ piece;
      takes = taken_more;
      bounded = omega (arith, length-append text piece);
      judged = inr (Anyway (λ ending further. long_text ending (text ++ piece) further (subst (λ (t : List ℕ). 1048576 < length t) is long)));
    }

    -- the text goes on
    pub text_goes_on : (whole : List ℕ) → whole ≡ text ++ piece → first.left ≡ prepend_known whole after.left
    text_goes_on whole is = taken_more ∙ ap (λ t. prepend_known t after.left) (sym is)

-- a text that was not read whole
pub judged_err : (before after : Input) (fault : Fault) → Judges input_text before after (Err fault)
    → Judges input_settings before after (Err fault)
judged_err before after fault judges = record { read = judges.read; takes = judges.takes; bounded = judges.bounded; judged = tells_err judges.judged }
  where
    tells_map : {read : List ℕ} {at_end fails : Type 0} → Tells input_text read at_end fails (λ answer. answer ≡ Err fault) → Tells input_settings read at_end fails (λ answer. answer ≡ Err fault)
    tells_map (Anyway always) = Anyway (λ ending more. ap judged_text (always ending more))
    tells_map (AtEnd ended holds) = AtEnd ended (ap judged_text holds)
    tells_map (AtFailure fails holds) = AtFailure fails (ap judged_text holds)

    tells_err : {read : List ℕ} {at_end fails : Type 0} → IsWanted {A = List ℕ} (Err fault) ⊎ Tells input_text read at_end fails (λ answer. answer ≡ Err fault) → IsWanted {A = Settings} (Err fault) ⊎ Tells input_settings read at_end fails (λ answer. answer ≡ Err fault)
    tells_err (inl (inl wanted)) = inl (inl cc)
    tells_err (inl (inr wanted)) = inl (inr cc)
    tells_err (inr tells) = inr (tells_map tells)
