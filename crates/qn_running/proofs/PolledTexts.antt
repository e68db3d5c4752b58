-- What a node takes from its settings text.
use Rattle.std.proofs.Common.{◌≡◌, ℕ, Bool, true, false, inr, List, Option, Result, Ok, sym, ap, ◌∙◌, subst, codes, arith}
use Rattle.std.specs.Prelude.{IsOkAnd, IsTrue}
use Rattle.std.specs.declared.net.ip_addr.IpAddr.{IpAddr}
use Rattle.qn_conf.specs.Conf.{conf_of}
use Rattle.qn_conf.specs.declared.faults.ConfFault.{ConfFault}
use Rattle.qn_conf.specs.declared.tree.Item.{Item}
use Rattle.qn_links.specs.Arbiters.{HasHost, host_of}
use Rattle.qn_links.specs.Devices.{NamesArbiter, last_in_net}
use Rattle.qn_links.specs.declared.device.DeviceNet.{DeviceNet}
use Rattle.qn_model.specs.declared.configuration.Settings.{Settings}
use Rattle.qn_model.specs.Lines.{Ended}
use Rattle.qn_commands.specs.InputSettings.{ReadsText, judged_text}
use Rattle.qn_commands.specs.Reads.{AtEnd}
use Rattle.qn_commands.specs.Seen.{Input}
use Rattle.qn_commands.specs.SettingsLaws.{short_text}
use Rattle.qn_running.specs.Polls.{NamesOne, PollsBy, ReadsNode}

-- a host that is no address names no arbiter
pub names_none : (text : List ℕ) (tree : List Item) (net : DeviceNet) (named : Bool) → Ok tree ≡ conf_of text
    → host_of net ≡ last_in_net (codes "host") tree → ((address : IpAddr) → HasHost net address → IsTrue named) → named ≡ false
    → NamesOne text → ⊥
names_none text tree net named is host only none names =
    let one : NamesArbiter tree = subst (λ (conf : Result (List Item) ConfFault). IsOkAnd conf NamesArbiter) (sym is) names in
    let yes : named ≡ true = only one.1 (one.0, host ∙ one.2, one.3) in
    cc

-- a good text that was read, and how a node polls by it
pub reads_node : {before after : Input} {text : List ℕ} {settings : Settings} {polls : Option ℕ} → ReadsText before after text settings
    → PollsBy text settings polls → ReadsNode before after settings polls
reads_node {before} {after} {text} {settings} {polls} reads polled = record {
  judges = record {
    read = text;
    takes = reads.whole.takes;
    bounded = let short = reads.whole.bounded in omega arith;
    judged = inr (AtEnd reads.whole.at_end (ap judged_text (short_text Ended text reads.whole.bounded) ∙ reads.good));
  };
  polled = polled;
}
