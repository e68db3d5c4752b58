-- `arbiter`: the far end of a quorum device, which leases its vote; corosync-qnetd(8) for what it is, and this project's profile for how
-- it decides and for its words.
use Rattle.std.specs.Prelude.{◌≡◌, ℕ, Bool, true, false, [], ◌∷◌, ◌++◌, codes, decimal, if◌then◌else◌}
use Rattle.std.specs.Option.{option_map_or}
use Rattle.qn_base.specs.declared.calls.Call.{Call}
use Rattle.qn_base.specs.declared.calls.Call.TheVariants.{OpenNode}
use Rattle.qn_base.specs.declared.ids.Rank.{Rank}
use Rattle.qn_base.specs.Calls.{is_failed}
use Rattle.qn_base.specs.Plans.{Made}
use Rattle.qn_leases.specs.declared.arbiter_end.ArbiterEnd.{ArbiterEnd}
use Rattle.qn_leases.specs.declared.arbiter_end.ArbiterEnd.TheVariants as end
use Rattle.qn_leases.specs.Serving.{Served, arbiter_plan}
use Rattle.qn_model.specs.declared.configuration.Device.{Device}
use Rattle.qn_model.specs.declared.configuration.Settings.{Settings}
use Rattle.qn_model.specs.Lines.{Outcome}
use Rattle.qn_polls.specs.Times.{times_of}
use Rattle.qn_arbitrating.specs.declared.command.ArbiterWords.{ArbiterWords}
use Rattle.qn_commands.specs.declared.fault.Fault.TheVariants.{ClockBack, EnvFault, NoArbiter}
use Rattle.qn_commands.specs.declared.status.Status.TheVariants as status
use Rattle.qn_commands.specs.Endings.{refused}
use Rattle.qn_commands.specs.InputSettings.{WorksOnSettings}
use Rattle.qn_commands.specs.Seen.{Outside, Seen}
use Rattle.qn_commands.specs.Statuses.{HasCauses, IsOneOf}
use Rattle.qn_commands.specs.Works.{Last, Makes, Work, after_plan, refusal}

-- the seat of an arbiter, one above those of the ranks
abbrev pub arbiter_seat : Rank
arbiter_seat = record { 0 = 32 }

-- the one call that opens its port, with its answer: it has no image, no watchdog and no resource
abbrev pub arbiter_opening : ArbiterWords → Bool → Call
arbiter_opening words ok = OpenNode 0 [] [] [] words.port arbiter_seat ok

-- the outcome of a run of so many turns
abbrev pub arbiter_outcome : ℕ → ArbiterEnd → Outcome
arbiter_outcome turns end.Turns = record { text = codes "turns " ++ decimal turns ++ codes "\n"; status = 0 }
arbiter_outcome turns (end.ClockBack before now) = refused (ClockBack before now)

-- the end of a run of so many turns
abbrev pub arbiter_end : ℕ → Served → Work
arbiter_end turns served = Last (arbiter_outcome turns served.end).text (arbiter_outcome turns served.end).status

-- the run of an arbiter with the least safe lease, and its last line
unfoldable pub serving_work : ArbiterWords → Device → Work
serving_work words device = after_plan (arbiter_plan (times_of device).lease words.turns) (arbiter_end words.turns)

-- once its port is open
abbrev pub once_open : Work → Call → Work
once_open run call = if is_failed call then refusal EnvFault else run

-- the opening of its port, and its run
unfoldable pub listening_work : ArbiterWords → Device → Work
listening_work words device = Makes (arbiter_opening words true) (once_open (serving_work words device))

-- once the settings are read: whether there is a device is looked at before anything is opened
unfoldable pub arbiter_work : ArbiterWords → Settings → Work
arbiter_work words settings = option_map_or (listening_work words) settings.device (refusal NoArbiter)

-- the opening failed, and no other call was made
abbrev pub FailsToListen : ArbiterWords → Outside → Outside → Type 0
FailsToListen words before after = Made before.faults after.faults before.calls after.calls (arbiter_opening words false ∷ [])

-- The whole input is read and judged before anything is called. Then the port is opened and the arbiter runs: exactly these calls are made,
-- and the last line is that of the end of the run. Nothing is written before. Memory is taken for the settings text alone.
pub record RunsArbiter (words : ArbiterWords) (before after : Seen) (code : ℕ) : Type 0 where
  pub ran : WorksOnSettings (arbiter_work words) before after code
  pub unopened : code ≡ 8 → FailsToListen words before.env after.env
  pub statuses : IsOneOf (status.Done ∷ status.BadConf ∷ status.ReadFault ∷ status.WriteFault ∷ status.EnvFault
      ∷ status.NoMemory ∷ status.ClockBack ∷ []) code
  pub causes : HasCauses before after code
