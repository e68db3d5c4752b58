-- What follows of the settings of an input: how it was judged, and of refused ones the status, and where memory was wanted.
use Rattle.std.proofs.Common.{◌≡◌, ◌≢◌, ◌≤◌, ◌⊎◌, inl, inr, ℕ, false, length, nat_lt, List, [], ◌++◌, Option, None, Some, Result, Ok, Err, IfOk, IfSome, refl, sym, ap, ◌∙◌, subst, arith}
use Rattle.std.specs.Io.KnownBytes.{IsAtEnd}
use Rattle.qn_conf.specs.declared.faults.ConfFault.{ConfFault}
use Rattle.qn_conf.specs.declared.faults.ConfFault.TheVariants as conf
use Rattle.qn_model.specs.declared.configuration.Settings.{Settings}
use Rattle.qn_model.specs.Lines.{Ending, Ended}
use Rattle.qn_commands.specs.declared.fault.Fault.{Fault}
use Rattle.qn_commands.specs.declared.fault.Fault.TheVariants as fault
use Rattle.qn_commands.specs.Faults.{conf_status, status_of}
use Rattle.qn_commands.specs.InputSettings.{IsWanted, Judges, ReadsWhole, input_settings, input_text, judged_text, settings_in, text_at}
use Rattle.qn_commands.specs.Reads.{AtEnd, Tells}
use Rattle.qn_commands.specs.RunLaws.{known_whole, tells_all}
use Rattle.qn_commands.specs.Seen.{Input, ReadFails}

-- ## A text that was read whole

pub short_text : (ending : Ending) (text : List ℕ) → length text ≤ 1048576 → input_text ending text ≡ text_at ending text
unfolding input_text
short_text ending text short =
    let not_long : nat_lt 1048576 (length text) ≡ false = grind arith in
    rw not_long refl

-- the input was judged by what its text gives, or there was no memory for it
pub judged_whole : {before after : Input} {text : List ℕ} (result : Result Settings Fault) → ReadsWhole before after text
    → IsWanted result ⊎ (settings_in text ≡ result) → Judges input_settings before after result
judged_whole {before} {after} {text} result reads gives = record {
  read = text;
  takes = reads.takes;
  bounded = let short = reads.bounded in omega arith;
  judged = of_gives gives;
}
  where
    of_gives : IsWanted result ⊎ (settings_in text ≡ result)
        → IsWanted result ⊎ Tells input_settings text (IsAtEnd after.left) (ReadFails before after) (λ answer. answer ≡ result)
    of_gives (inl wanted) = inl wanted
    of_gives (inr is) = inr (AtEnd reads.at_end (ap judged_text (short_text Ended text reads.bounded) ∙ is))

-- ## Settings that were refused

-- the status of a fault of the settings
abbrev pub IsSettingsStatus : ℕ → Type 0
IsSettingsStatus code = (code ≡ 3) ⊎ ((code ≡ 6) ⊎ (code ≡ 11))

pub own_status : (code own other : ℕ) → other ≢ 7 → (code ≡ own) ⊎ (code ≡ 7) → code ≡ other → own ≡ other
own_status code own other no_seven (inl same) is = sym same ∙ is
own_status code own other no_seven (inr seven) is = absurd (no_seven (sym is ∙ seven))

-- status 11 is that of memory that was wanted
wanted_of_conf : (why : ConfFault) → conf_status why ≡ 11 → IsWanted {A = Settings} (Err (fault.BadConf why))
wanted_of_conf (conf.BadLine line) is = absurd (omega arith)
wanted_of_conf conf.Unclosed is = absurd (omega arith)
wanted_of_conf (conf.ExtraClose line) is = absurd (omega arith)
wanted_of_conf (conf.TooDeep line) is = absurd (omega arith)
wanted_of_conf conf.NotText is = absurd (omega arith)
wanted_of_conf conf.TooLong is = absurd (omega arith)
wanted_of_conf conf.NoMemory is = inr refl

pub wanted_of : (why : Fault) → status_of why ≡ 11 → IsWanted {A = Settings} (Err why)
wanted_of fault.Usage is = absurd (omega arith)
wanted_of (fault.BadConf why) is = wanted_of_conf why is
wanted_of (fault.BadSettings why) is = absurd (omega arith)
wanted_of fault.NoArbiter is = absurd (omega arith)
wanted_of (fault.BadSchedule line why) is = absurd (omega arith)
wanted_of (fault.NotAllowed line rule) is = absurd (omega arith)
wanted_of fault.ReadFault is = absurd (omega arith)
wanted_of fault.EnvFault is = absurd (omega arith)
wanted_of (fault.BadImage sector) is = absurd (omega arith)
wanted_of (fault.UnsafeTiming timing) is = absurd (omega arith)
wanted_of (fault.UnsafeLease times) is = absurd (omega arith)
wanted_of fault.NoMemory is = inl refl
wanted_of (fault.ClockBack before now) is = absurd (omega arith)
wanted_of (fault.SelfReset message) is = absurd (omega arith)
wanted_of (fault.BootHalted cause) is = absurd (omega arith)
wanted_of (fault.DeadlyThere held) is = absurd (omega arith)
wanted_of (fault.UnknownNode id) is = absurd (omega arith)
wanted_of (fault.NotARun line) is = absurd (omega arith)

wanted_memory : (why : Fault) → IsWanted {A = Settings} (Err why) → status_of why ≡ 11
wanted_memory why (inl is) = let same : why ≡ fault.NoMemory = cc in ap status_of same
wanted_memory why (inr is) = let same : why ≡ fault.BadConf conf.NoMemory = cc in ap status_of same

-- a fact of the settings of an input, whatever they are
if_ok_always : {A E : Type 0} {P : Type 0} (result : Result A E) → P → IfOk result (λ value. P)
if_ok_always (Ok value) holds = holds
if_ok_always (Err fault) holds = tt

pub whatever_told : {P : Type 0} (left : Option (List ℕ)) → P → IfSome left (λ bytes. IfOk (input_settings Ended bytes) (λ settings. P))
whatever_told None holds = tt
whatever_told (Some bytes) holds = if_ok_always (input_settings Ended bytes) holds

-- settings that were refused, where nothing failed and memory sufficed, are not good
pub refused_settings : (P : Type 0) (before after : Input) (why : Fault) → Judges input_settings before after (Err why) → status_of why ≢ 11
    → ¬ ReadFails before after → IfSome before.left (λ bytes. IfOk (input_settings Ended bytes) (λ settings. P))
refused_settings P before after why judges memory no_read =
    known_whole (λ bytes. IfOk (input_settings Ended bytes) (λ settings. P)) before.left after.left judges.read judges.takes
    (λ rest bytes left parts. of_judged rest bytes left parts judges.judged)
  where
    of_judged : (rest bytes : List ℕ) → after.left ≡ Some rest → bytes ≡ judges.read ++ rest
        → IsWanted {A = Settings} (Err why) ⊎ Tells input_settings judges.read (IsAtEnd after.left) (ReadFails before after) (λ answer. answer ≡ Err why)
        → IfOk (input_settings Ended bytes) (λ settings. P)
    of_judged rest bytes left parts (inl wanted) = absurd (memory (wanted_memory why wanted))
    of_judged rest bytes left parts (inr tells) =
        subst (λ (r : Result Settings Fault). IfOk r (λ settings. P))
        (sym (tells_all input_settings judges.read rest bytes (Err why) parts
        (subst (λ (l : Option (List ℕ)). IsAtEnd l → rest ≡ []) (sym left) (λ ended. ended)) no_read tells)) tt
