-- `create`: makes an image for the settings of the input, sbd(8) and corosync.conf(5); this project's profile for its words.
use Rattle.std.specs.Prelude.{◌≡◌, ◌≢◌, ℕ, false, true, List, [], ◌∷◌, Result, Ok, Err, IfOk, IfSome, length}
use Rattle.qn_image.specs.declared.fault.ImageFault.{ImageFault}
use Rattle.qn_image.specs.Writes.{create_plan}
use Rattle.qn_model.specs.declared.configuration.Settings.{Settings}
use Rattle.qn_model.specs.declared.times.Timing.{Timing}
use Rattle.qn_model.specs.Lines.{Ended}
use Rattle.qn_model.specs.Timing.{is_safe}
use Rattle.qn_commands.specs.declared.fault.Fault.TheVariants.{UnsafeTiming}
use Rattle.qn_commands.specs.declared.status.Status.TheVariants as status
use Rattle.qn_commands.specs.Faults.{disk_fault}
use Rattle.qn_commands.specs.Images.{opened_plan}
use Rattle.qn_commands.specs.ImageTexts.{created_text}
use Rattle.qn_commands.specs.InputSettings.{WorksOnSettings, input_settings}
use Rattle.qn_commands.specs.Seen.{CallFails, ReadFails, Seen, WriteFails}
use Rattle.qn_commands.specs.Statuses.{HasCauses, IsOneOf}
use Rattle.qn_commands.specs.Works.{Last, Work, Works, after_plan, refusal}

-- once the settings are read
abbrev pub create_end : ℕ → Result (Unit {0}) ImageFault → Work
create_end nodes (Ok done) = Last (created_text nodes) 0
create_end nodes (Err fault) = refusal (disk_fault fault)

unfoldable pub image_work : List ℕ → Timing → Settings → Work
image_work image timing settings =
    after_plan (opened_plan image (create_plan settings.nodes timing))
    (create_end (length settings.nodes))

-- Times that are not safe are refused before anything else. With safe times the whole input is read and judged before the
-- image is opened; where nothing failed and memory sufficed, good settings get their image.
pub record Creates (image : List ℕ) (timing : Timing) (before after : Seen) (code : ℕ) : Type 0
  where
    pub unsafe_times : is_safe timing ≡ false
        → Works (refusal (UnsafeTiming timing)) before after code
    pub created : is_safe timing ≡ true → WorksOnSettings (image_work image timing) before after code
    pub complete : is_safe timing ≡ true → code ≢ 11 → ¬ ReadFails before.input after.input
        → ¬ WriteFails before.output after.output → ¬ CallFails before.env after.env
        → IfSome before.input.left (λ bytes. IfOk (input_settings Ended bytes) (λ settings. code ≡ 0))
    pub statuses : IsOneOf (status.Done ∷ status.BadConf ∷ status.ReadFault ∷ status.WriteFault
        ∷ status.EnvFault ∷ status.UnsafeTiming ∷ status.NoMemory ∷ []) code
    pub causes : HasCauses before after code
