-- Within which limit a node polls its arbiter: corosync-qdevice(8), `quorum`, `device`, `net`, `host`. That a node polls where the host is an
-- address, and the limit, are this project's profile.
use Rattle.std.specs.Prelude.{◌≡◌, ◌⊎◌, ℕ, List, Option, None, Some, Ok, IsOkAnd}
use Rattle.qn_conf.specs.Conf.{conf_of}
use Rattle.qn_links.specs.Devices.{NamesArbiter}
use Rattle.qn_model.specs.declared.configuration.Device.{Device}
use Rattle.qn_model.specs.declared.configuration.Settings.{Settings}
use Rattle.qn_polls.specs.Times.{times_of}
use Rattle.qn_commands.specs.InputSettings.{Judges, input_settings}
use Rattle.qn_commands.specs.Seen.{Input}

-- what a settings text writes as the host of its arbiter is an address
abbrev pub NamesOne : List ℕ → Type 0
NamesOne text = IsOkAnd (conf_of text) NamesArbiter

-- a node of these settings polls where there is a device and its text names an arbiter, within the limit at the device
abbrev pub PollsBy : List ℕ → Settings → Option ℕ → Type 0
PollsBy text settings None = (settings.device ≡ None) ⊎ (NamesOne text → ⊥)
PollsBy text settings (Some limit) =
    (device : Device) × (settings.device ≡ Some device) × NamesOne text × (limit ≡ (times_of device).limit)

-- the text of an input was read and is good, and a node polls so by it
pub record ReadsNode (before after : Input) (settings : Settings) (polls : Option ℕ) : Type 0 where
  pub judges : Judges input_settings before after (Ok settings)
  pub polled : PollsBy judges.read settings polls
