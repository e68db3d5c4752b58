-- The last line of a command that did not do its work, and its exit status: this project's profile.
use Rattle.std.specs.Prelude.{ℕ, List, ◌++◌, codes, decimal}
use Rattle.qn_conf.specs.declared.faults.ConfFault.{ConfFault}
use Rattle.qn_conf.specs.declared.faults.ConfFault.TheVariants as conf
use Rattle.qn_image.specs.declared.fault.ImageFault.{ImageFault}
use Rattle.qn_image.specs.declared.fault.ImageFault.TheVariants as image
use Rattle.qn_model.specs.declared.disk.Message.{Message}
use Rattle.qn_model.specs.declared.line_fault.LineFault.{LineFault}
use Rattle.qn_model.specs.declared.rules.Rule.{Rule}
use Rattle.qn_model.specs.declared.times.Timing.{Timing}
use Rattle.qn_model.specs.Lines.{name_of}
use Rattle.qn_model.specs.Messages.{message_name}
use Rattle.qn_names.specs.CauseNumbers.{cause_number}
use Rattle.qn_settings.specs.declared.faults.SettingsFault.{SettingsFault}
use Rattle.qn_settings.specs.declared.faults.SettingsFault.TheVariants as settings
use Rattle.qn_settings.specs.declared.faults.TextFault.{TextFault}
use Rattle.qn_settings.specs.declared.faults.TextFault.TheVariants as text
use Rattle.qn_settings.specs.Keys.{key_name}
use Rattle.qn_commands.specs.declared.fault.Fault.{Fault}
use Rattle.qn_commands.specs.declared.fault.LeaseTimes.{LeaseTimes}
use Rattle.qn_commands.specs.declared.fault.Fault.TheVariants.{Usage, BadConf, BadSettings, NoArbiter, BadSchedule, NotAllowed, ReadFault, EnvFault, BadImage, UnsafeTiming, UnsafeLease, NoMemory, ClockBack, SelfReset, BootHalted, DeadlyThere, UnknownNode, NotARun}

-- a settings text that is no configuration
abbrev pub conf_line : ConfFault → List ℕ
conf_line (conf.BadLine line) = codes "fault BadConf BadLine line " ++ decimal line ++ codes "\n"
conf_line conf.Unclosed = codes "fault BadConf Unclosed\n"
conf_line (conf.ExtraClose line) = codes "fault BadConf ExtraClose line " ++ decimal line ++ codes "\n"
conf_line (conf.TooDeep line) = codes "fault BadConf TooDeep line " ++ decimal line ++ codes "\n"
conf_line conf.NotText = codes "fault BadConf NotText\n"
conf_line conf.TooLong = codes "fault BadConf TooLong\n"
conf_line conf.NoMemory = codes "fault NoMemory\n"

-- a configuration that gives no settings
abbrev pub settings_line : SettingsFault → List ℕ
settings_line settings.WrongProvider = codes "fault BadConf WrongProvider\n"
settings_line (settings.Unsupported key) = codes "fault BadConf Unsupported key " ++ key_name key ++ codes "\n"
settings_line (settings.BadNumber key) = codes "fault BadConf BadNumber key " ++ key_name key ++ codes "\n"
settings_line (settings.NoId node) = codes "fault BadConf NoId node " ++ decimal node ++ codes "\n"
settings_line settings.NoNodes = codes "fault BadConf NoNodes\n"
settings_line settings.TooManyNodes = codes "fault BadConf TooManyNodes\n"
settings_line (settings.RepeatedId id) = codes "fault BadConf RepeatedId id " ++ decimal id.0 ++ codes "\n"
settings_line settings.NoVotes = codes "fault BadConf NoVotes\n"
settings_line settings.ExpectedZero = codes "fault BadConf ExpectedZero\n"
settings_line settings.TwoNodeCount = codes "fault BadConf TwoNodeCount\n"
settings_line settings.TwoNodeVotes = codes "fault BadConf TwoNodeVotes\n"
settings_line settings.TwoNodeDevice = codes "fault BadConf TwoNodeDevice\n"
settings_line (settings.LmsVotes id) = codes "fault BadConf LmsVotes id " ++ decimal id.0 ++ codes "\n"
settings_line settings.TieDevice = codes "fault BadConf TieDevice\n"
settings_line settings.TieTwoNode = codes "fault BadConf TieTwoNode\n"
settings_line settings.BadTieNode = codes "fault BadConf BadTieNode\n"

-- times that are not safe
abbrev pub timing_line : Timing → List ℕ
timing_line t =
    codes "fault UnsafeTiming " ++ decimal t.watchdog ++ codes " " ++ decimal t.msgwait ++ codes " " ++ decimal t.loop_ms ++ codes " "
    ++ decimal t.read_limit ++ codes " " ++ decimal t.feed_delay ++ codes "\n"

-- two times of a lease that are not safe: the timeout of the device, the limit and the lease
abbrev pub lease_line : LeaseTimes → List ℕ
lease_line times =
    codes "fault UnsafeLease " ++ decimal times.timeout ++ codes " " ++ decimal times.limit ++ codes " " ++ decimal times.lease ++ codes "\n"

-- a line of a schedule that is at fault
abbrev pub schedule_line : ℕ → LineFault → List ℕ
schedule_line line fault = codes "fault BadSchedule line " ++ decimal line ++ codes " " ++ name_of fault ++ codes "\n"

-- an event that a rule refuses
abbrev pub refused_line : ℕ → Rule → List ℕ
refused_line line rule = codes "fault NotAllowed line " ++ decimal line ++ codes " rule " ++ decimal rule.0 ++ codes "\n"

-- a deadly message that is not to be replaced
abbrev pub deadly_line : Message → List ℕ
deadly_line held = codes "fault DeadlyThere " ++ message_name held ++ codes "\n"

-- a clock that went back: the tick before, and the one that followed
abbrev pub clock_line : ℕ → ℕ → List ℕ
clock_line before now = codes "fault ClockBack " ++ decimal before ++ codes " " ++ decimal now ++ codes "\n"

-- a deadly message that a running node read
abbrev pub reset_line : Message → List ℕ
reset_line message = codes "fault SelfReset " ++ message_name message ++ codes "\n"

-- the last line
abbrev pub fault_line : Fault → List ℕ
fault_line Usage = codes "fault Usage\n"
fault_line (BadConf fault) = conf_line fault
fault_line (BadSettings fault) = settings_line fault
fault_line NoArbiter = codes "fault NoArbiter\n"
fault_line (BadSchedule line fault) = schedule_line line fault
fault_line (NotAllowed line rule) = refused_line line rule
fault_line ReadFault = codes "fault ReadFault\n"
fault_line EnvFault = codes "fault EnvFault\n"
fault_line (BadImage sector) = codes "fault BadImage sector " ++ decimal sector ++ codes "\n"
fault_line (UnsafeTiming timing) = timing_line timing
fault_line (UnsafeLease times) = lease_line times
fault_line NoMemory = codes "fault NoMemory\n"
fault_line (ClockBack before now) = clock_line before now
fault_line (SelfReset message) = reset_line message
fault_line (BootHalted cause) = codes "fault BootHalted " ++ decimal (cause_number cause) ++ codes "\n"
fault_line (DeadlyThere held) = deadly_line held
fault_line (UnknownNode id) = codes "fault UnknownNode " ++ decimal id.0 ++ codes "\n"
fault_line (NotARun line) = codes "fault NotARun line " ++ decimal line ++ codes "\n"

-- the exit status
abbrev pub conf_status : ConfFault → ℕ
conf_status (conf.BadLine line) = 3
conf_status conf.Unclosed = 3
conf_status (conf.ExtraClose line) = 3
conf_status (conf.TooDeep line) = 3
conf_status conf.NotText = 3
conf_status conf.TooLong = 3
conf_status conf.NoMemory = 11

abbrev pub status_of : Fault → ℕ
status_of Usage = 2
status_of (BadConf fault) = conf_status fault
status_of (BadSettings fault) = 3
status_of NoArbiter = 3
status_of (BadSchedule line fault) = 4
status_of (NotAllowed line rule) = 5
status_of ReadFault = 6
status_of EnvFault = 8
status_of (BadImage sector) = 9
status_of (UnsafeTiming timing) = 10
status_of (UnsafeLease times) = 17
status_of NoMemory = 11
status_of (ClockBack before now) = 12
status_of (SelfReset message) = 13
status_of (BootHalted cause) = 14
status_of (DeadlyThere held) = 15
status_of (UnknownNode id) = 16
status_of (NotARun line) = 18

-- a text that gives no settings
abbrev pub text_fault : TextFault → Fault
text_fault (text.Conf fault) = BadConf fault
text_fault (text.Settings fault) = BadSettings fault

-- what a call on an image met that read sectors alone: one that is no spelling, or else the disk
abbrev pub disk_fault : ImageFault → Fault
disk_fault image.Disk = EnvFault
disk_fault image.NotImage = BadImage 0
disk_fault image.UnsafeTiming = EnvFault
disk_fault (image.DeadlyThere held) = EnvFault
disk_fault (image.DamagedSector sector) = BadImage sector
disk_fault image.UnknownNode = EnvFault
