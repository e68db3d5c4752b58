-- A node asks nothing of the disk while one of its operations is out and not answered.
use Rattle.std.proofs.Common.{◌≡◌, ℕ, Bool, true, false, List, [], ◌∷◌, ◌++◌, Some, None, refl, if◌then◌else◌, ◌||◌, ◌∙◌, ap}
use Rattle.std.specs.Prelude.{Option, filter, is_some, length}
use Rattle.std.specs.List.{range_with_len}
use Rattle.std.specs.Option.{option_map_or, option_or}
use Rattle.qn_base.specs.declared.ids.View.{View}
use Rattle.qn_model.specs.declared.configuration.Settings.{Settings}
use Rattle.qn_model.specs.declared.entries.Entry.{Entry}
use Rattle.qn_model.specs.declared.entries.What.{What}
use Rattle.qn_model.specs.declared.entries.What.TheVariants as what
use Rattle.qn_model.specs.declared.outputs.DiskOp.{DiskOp}
use Rattle.qn_model.specs.declared.outputs.Out.{Out}
use Rattle.qn_model.specs.declared.outputs.Out.TheVariants as out
use Rattle.qn_model.specs.Log.{Line, disk_of, is_answer, op_out}
use Rattle.qn_model.specs.Phases.{boot_halt, deadly_of, is_booting, is_live, message_of, phase}
use Rattle.qn_model.specs.Holding.{holds}
use Rattle.qn_model.specs.NodeVotes.{view}
use Rattle.qn_model.specs.Fitting.{fits, is_first, read_as}
use Rattle.qn_model.specs.Wanted.{wanted_with_delay}
use Rattle.qn_model.specs.NodeOutputs.{acts, asks, asks_under, boot_outs, boot_step_outs, disk_outs, gives_start, gives_stop, is_asked, is_asking, is_boot_step, live_outs, mail_feeds, newest_outs, outs_at, replies, taken_in, when, with_entry}
use Rattle.qn_model.specs.lemmas.Operations.{none_joined, none_when, none_of_replies, none_of_asks}

none_front : (front back : Option DiskOp) → front ≡ None → back ≡ None → option_or front back ≡ None
none_front None back e f = f
none_front (Some op) back e f = absurd (cc)

under_no_disk : (s : Settings) (me : ℕ) (log : List Line) (present : Option View) → disk_of (option_map_or (asks_under s me log) present []) ≡ None
under_no_disk s me log None = refl
under_no_disk s me log (Some present) = none_of_asks me log present (filter (is_asked s me log) (range_with_len 0 (length s.nodes)))

asking_no_disk : (s : Settings) (me : ℕ) (log : List Line) (b : Bool) → disk_of (if b then option_map_or (asks_under s me log) (view log) [] else []) ≡ None
asking_no_disk s me log true = under_no_disk s me log (view log)
asking_no_disk s me log false = refl

none_if : (b : Bool) (rest : Option DiskOp) → b ≡ true → (if b then None else rest) ≡ None
none_if b rest e = ap (λ b. if b then None else rest) e

-- nothing is wanted while an operation is out
wanted_none : (s : Settings) (me : ℕ) (log : List Line) → is_some (op_out log) ≡ true → wanted_with_delay s me log ≡ None
unfolding wanted_with_delay
wanted_none s me log e = none_if (is_some (op_out log)) _ e

acts_no_disk : (s : Settings) (me : ℕ) (log : List Line) (entry : What) (fed : Bool) → is_some (op_out log) ≡ true → disk_of (acts s me log entry fed) ≡ None
unfolding acts
acts_no_disk s me log entry fed e =
    let stop = when (gives_stop s me log) out.Stop in
    let start = when (gives_start s me log) out.Start in
    let feed = when fed out.Feed in
    let told = replies s me (gives_start s me log || holds log) log entry in
    none_joined (stop ++ start ++ feed ++ told ++ asks s me log) (disk_outs (wanted_with_delay s me log))
    (none_joined (stop ++ start ++ feed ++ told) (asks s me log)
    (none_joined (stop ++ start ++ feed) told
    (none_joined (stop ++ start) feed
    (none_joined stop start (none_when (gives_stop s me log) out.Stop refl) (none_when (gives_start s me log) out.Start refl))
    (none_when fed out.Feed refl))
    (none_of_replies s me (gives_start s me log || holds log) log entry))
    (asking_no_disk s me log (is_asking s log)))
    (ap (λ op. disk_of (disk_outs op)) (wanted_none s me log e))

-- an entry that is no answer gives no operation while one is out
plain_live : (s : Settings) (me : ℕ) (log : List Line) (entry : What) (fed : Bool) → is_answer entry ≡ false → is_some (op_out log) ≡ true
    → disk_of (live_outs s me log entry fed (deadly_of (message_of entry))) ≡ None
plain_live s me log what.Begin fed plain e = acts_no_disk s me log what.Begin fed e
plain_live s me log what.BeginClean fed plain e = acts_no_disk s me log what.BeginClean fed e
plain_live s me log (what.Header seen) fed plain e = absurd (cc)
plain_live s me log (what.SlotRead rank seen) fed plain e = absurd (cc)
plain_live s me log (what.MailChecked seen) fed plain e = absurd (cc)
plain_live s me log (what.Claimed ok) fed plain e = absurd (cc)
plain_live s me log (what.Cleared ok) fed plain e = absurd (cc)
plain_live s me log (what.MailRead seen) fed plain e = absurd (cc)
plain_live s me log (what.MailWritten rank ok) fed plain e = absurd (cc)
plain_live s me log (what.View installed) fed plain e = acts_no_disk s me log (what.View installed) fed e
plain_live s me log (what.Ask ask) fed plain e = acts_no_disk s me log (what.Ask ask) fed e
plain_live s me log (what.Tell tell) fed plain e = acts_no_disk s me log (what.Tell tell) fed e
plain_live s me log (what.Device agrees) fed plain e = acts_no_disk s me log (what.Device agrees) fed e
plain_live s me log what.Tick fed plain e = acts_no_disk s me log what.Tick fed e
plain_live s me log (what.Stopped ok) fed plain e = acts_no_disk s me log (what.Stopped ok) fed e
plain_live s me log what.Leave fed plain e = acts_no_disk s me log what.Leave fed e
plain_live s me log (what.Closed ok) fed plain e = absurd (cc)

-- a Begin is read only as the first entry
first_or_none : (s : Settings) (me : ℕ) (past : List Line) → is_some (op_out past) ≡ true → is_first past ≡ false
unfolding op_out
first_or_none s me [] e = absurd (cc)
first_or_none s me (line ∷ past) e = refl

plain_if : (b : Bool) (w : What) → is_boot_step w ≡ false → is_boot_step (if b then w else what.Tick) ≡ false
plain_if true w e = e
plain_if false w e = refl

if_plain : (b : Bool) (w : What) → is_answer (if b then w else what.Tick) ≡ false → is_answer w ≡ true → is_boot_step (if b then w else what.Tick) ≡ false
if_plain true w plain answers = absurd (cc)
if_plain false w plain answers = refl

plain_step : (s : Settings) (me : ℕ) (past : List Line) (w : What) → is_answer (read_as s me past w) ≡ false → is_some (op_out past) ≡ true
    → is_boot_step (read_as s me past w) ≡ false
plain_step s me past what.Begin plain e = ap (λ b. is_boot_step (if b then what.Begin else what.Tick)) (first_or_none s me past e)
plain_step s me past what.BeginClean plain e = ap (λ b. is_boot_step (if b then what.BeginClean else what.Tick)) (first_or_none s me past e)
plain_step s me past (what.Header seen) plain e = if_plain (fits s me past (what.Header seen)) (what.Header seen) plain refl
plain_step s me past (what.SlotRead rank seen) plain e = if_plain (fits s me past (what.SlotRead rank seen)) (what.SlotRead rank seen) plain refl
plain_step s me past (what.MailChecked seen) plain e = if_plain (fits s me past (what.MailChecked seen)) (what.MailChecked seen) plain refl
plain_step s me past (what.Claimed ok) plain e = if_plain (fits s me past (what.Claimed ok)) (what.Claimed ok) plain refl
plain_step s me past (what.Cleared ok) plain e = if_plain (fits s me past (what.Cleared ok)) (what.Cleared ok) plain refl
plain_step s me past (what.MailRead seen) plain e = plain_if (fits s me past (what.MailRead seen)) (what.MailRead seen) refl
plain_step s me past (what.MailWritten rank ok) plain e = plain_if (fits s me past (what.MailWritten rank ok)) (what.MailWritten rank ok) refl
plain_step s me past (what.View installed) plain e = plain_if (fits s me past (what.View installed)) (what.View installed) refl
plain_step s me past (what.Ask ask) plain e = plain_if (fits s me past (what.Ask ask)) (what.Ask ask) refl
plain_step s me past (what.Tell tell) plain e = plain_if (fits s me past (what.Tell tell)) (what.Tell tell) refl
plain_step s me past (what.Device agrees) plain e = plain_if (fits s me past (what.Device agrees)) (what.Device agrees) refl
plain_step s me past what.Tick plain e = refl
plain_step s me past (what.Stopped ok) plain e = plain_if (fits s me past (what.Stopped ok)) (what.Stopped ok) refl
plain_step s me past what.Leave plain e = plain_if (fits s me past what.Leave) what.Leave refl
plain_step s me past (what.Closed ok) plain e = plain_if (fits s me past (what.Closed ok)) (what.Closed ok) refl

taken_in_out : (past : List Line) (tick : ℕ) (entry : What) → is_answer entry ≡ false → is_some (op_out past) ≡ true → is_some (op_out (taken_in past tick entry)) ≡ true
unfolding op_out
taken_in_out past tick entry plain e = ap (λ b. is_some (if b then None else op_out past)) plain ∙ e

silent_by : (s : Settings) (me : ℕ) (clean : Bool) (number : ℕ) (entry : What) (booting live : Bool) (lively : List Out) → is_boot_step entry ≡ false → disk_of lively ≡ None
    → disk_of (if booting then boot_outs s me clean number entry else (if live then lively else [])) ≡ None
silent_by s me clean number entry true live lively plain e = ap (λ b. disk_of (if b then boot_step_outs me clean number entry (boot_halt s entry) else [])) plain
silent_by s me clean number entry false true lively plain e = e
silent_by s me clean number entry false false lively plain e = refl

-- nothing is asked of the disk at an entry that is read as no answer while an operation is out
pub silent_while_out : (s : Settings) (me : ℕ) (past : List Line) (entry : Entry) → is_answer (read_as s me past entry.what) ≡ false → is_some (op_out past) ≡ true
    → disk_of (newest_outs (with_entry s me past entry)) ≡ None
unfolding with_entry outs_at
silent_while_out s me past entry plain e =
    let w = read_as s me past entry.what in
    silent_by s me _ _ w (is_booting (phase s past)) (is_live (phase s past)) (live_outs s me (taken_in past entry.tick w) w (mail_feeds entry.tick past w) (deadly_of (message_of w)))
    (plain_step s me past entry.what plain e)
    (plain_live s me (taken_in past entry.tick w) w (mail_feeds entry.tick past w) plain (taken_in_out past entry.tick w plain e))
