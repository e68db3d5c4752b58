use Rattle.std.proofs.Common.{◌≡◌, Bool, List, ◌∷◌, Some, map, ap, sym, ◌∙◌}
use Rattle.qn_settings.specs.declared.entries.Entry.{Entry}
use Rattle.qn_settings.specs.declared.faults.SettingsFault.{SettingsFault}
use Rattle.qn_settings.specs.Entries.{entries_of}
use Rattle.qn_settings.specs.Values.{bad_number_in, first_some}
use Rattle.qn_settings.proofs.values.bad_number.Goals as goal

found :
    (device : Bool) (entry : Entry) (rest entries all : List Entry) (fault : SettingsFault)
    → entries ≡ entry ∷ rest
    → first_some (map (bad_number_in device) entries) ≡ first_some (map (bad_number_in device) all)
    → bad_number_in device entry ≡ Some fault
    → Some fault ≡ first_some (map (bad_number_in device) all)
found device entry rest entries all fault is same bad =
    rw (is, bad) at same

pub returns-in-Some-bad_number_in : goal.returns-in-Some-bad_number_in
returns-in-Some-bad_number_in c =
    found _ c.in-Some.entry _ _ (entries_of c.args.tree.now) _ c.in-Some.ensures.steps c.loop-entry.invariant (sym c.bad_number_in.ensures ∙ c.in-Some-bad_number_in.is)
    ∙ ap (λ device. first_some (map (bad_number_in device) (entries_of c.args.tree.now))) c.has_device-device.ensures
