-- Whose word counts of how a node is: its own live file, else what it told a node with one, lately. This project's profile.
use Rattle.std.specs.Prelude.{ℕ, Bool, true, false, not, ◌+◌, ◌-◌, ◌*◌, ◌==◌, ◌&&◌, ◌||◌, List, Option, Some, None, is_some, unwrap_or, if◌then◌else◌, nat_le, nat_lt}
use Rattle.std.specs.List.{list_any, list_all}
use Rattle.std.specs.Option.{option_map_or}
use Rattle.qn_base.specs.declared.ids.NodeId.{NodeId}
use Rattle.qn_model.specs.declared.life.Phase.{Phase}
use Rattle.qn_model.specs.declared.life.Phase.TheVariants.{Booting, Up, Leaving, Dying, Gone}
use Rattle.qn_shown.specs.declared.shown.Heard.{Heard}
use Rattle.qn_shown.specs.declared.shown.Heard.TheVariants.{Unsaid, Nothing, Said}
use Rattle.qn_shown.specs.declared.shown.Peer.{Peer}
use Rattle.qn_shown.specs.declared.shown.Shown.{Shown}
use Rattle.qn_shown.specs.declared.shown.Told.{Told}
use Rattle.qn_shown.specs.Groups.{is_fine}
use Rattle.qn_verdict.specs.declared.voice.Pair.{Pair}
use Rattle.qn_verdict.specs.declared.voice.Pair.TheVariants.{Two, TwoAtATime}
use Rattle.qn_verdict.specs.declared.voice.Voice.{Voice}
use Rattle.qn_verdict.specs.declared.voice.Wanted.{Wanted}
use Rattle.qn_verdict.specs.declared.voice.Wanted.TheVariants.{Holder, OtherHolder, LongerHolder}
use Rattle.qn_verdict.specs.Files.{is_arbiter_well, is_quiet, is_stale, loop_of, members_of}

abbrev pub is_live : ℕ → Shown → Bool
is_live now file = not (is_stale now file)

abbrev pub is_leaving : Phase → Bool
is_leaving Booting = false
is_leaving Up = false
is_leaving Leaving = true
is_leaving Dying = false
is_leaving Gone = false

-- what a node says of itself in its file
abbrev pub voice_of : Shown → Voice
voice_of file =
    record {
      id = file.id;
      group = file.group;
      held_ms = unwrap_or file.held_ms 0;
      holds = file.holds;
      leaving = is_leaving file.phase;
      loop_ms = loop_of file;
      quorate = file.answer.quorate;
      tick = file.tick;
    }

-- of now: at most three loops and a second old
abbrev pub is_fresh : ℕ → Shown → ℕ → Bool
is_fresh now file tick = nat_le tick now && nat_le (now - tick) (3 * loop_of file + 1000)

-- a live node of these files has the id
abbrev pub is_here : ℕ → List Shown → NodeId → Bool
is_here now files id = list_any (λ file. is_live now file && (file.id.0 == id.0)) files

abbrev pub told_by : NodeId → Shown → Told → ℕ → Voice
told_by id file told tick =
    record {
      id = id;
      group = told.group;
      held_ms = told.held_ms;
      holds = told.holds;
      leaving = told.leaving;
      loop_ms = loop_of file;
      quorate = told.quorate;
      tick = tick;
    }

abbrev pub voice_heard : ℕ → List Shown → Shown → NodeId → Heard → Option Voice
voice_heard now files file id Unsaid = None
voice_heard now files file id Nothing = None
voice_heard now files file id (Said told tick) = if is_fresh now file tick && not (is_here now files id) then Some (told_by id file told tick) else None

-- what a peer told that node lately, where no live file is its own
abbrev pub told_voice : ℕ → List Shown → Shown → Peer → Option Voice
told_voice now files file peer = voice_heard now files file peer.id peer.told

-- it holds at least as long as the other, and said so over two loops after the other began to
abbrev pub is_longer : Voice → Voice → Bool
is_longer voice other =
    nat_le other.held_ms voice.held_ms && nat_lt (2 * other.loop_ms) (voice.tick - (other.tick - other.held_ms))

-- a voice of who holds: of any node, of another one than that, or of another one that holds longer
abbrev pub is_wanted : Wanted → Voice → Bool
is_wanted Holder voice = voice.holds
is_wanted (OtherHolder other) voice = voice.holds && not (voice.id.0 == other.id.0)
is_wanted (LongerHolder other) voice = voice.holds && not (voice.id.0 == other.id.0) && is_longer voice other

abbrev pub is_told : ℕ → List Shown → Wanted → Shown → Peer → Bool
is_told now files wanted file peer = option_map_or (is_wanted wanted) (told_voice now files file peer) false

-- the node says what is wanted, or one that told it does
abbrev pub is_said_in : ℕ → List Shown → Wanted → Shown → Bool
is_said_in now files wanted file =
    is_live now file && (is_wanted wanted (voice_of file) || list_any (is_told now files wanted file) file.peers.items)

abbrev pub is_said : ℕ → List Shown → Wanted → Bool
is_said now files wanted = list_any (is_said_in now files wanted) files

abbrev pub is_held : ℕ → List Shown → Bool
is_held now files = is_said now files Holder

-- with whom a holder is a pair: with any other one, or with one that held before and went on for over two loops
abbrev pub partner_of : Pair → Voice → Wanted
partner_of Two voice = OtherHolder voice
partner_of TwoAtATime voice = LongerHolder voice

abbrev pub has_partner : ℕ → List Shown → Pair → Voice → Bool
has_partner now files pair voice = voice.holds && is_said now files (partner_of pair voice)

abbrev pub is_partner_told : ℕ → List Shown → Pair → Shown → Peer → Bool
is_partner_told now files pair file peer = option_map_or (has_partner now files pair) (told_voice now files file peer) false

abbrev pub is_paired_in : ℕ → List Shown → Pair → Shown → Bool
is_paired_in now files pair file =
    is_live now file && (has_partner now files pair (voice_of file) || list_any (is_partner_told now files pair file) file.peers.items)

abbrev pub are_paired : ℕ → List Shown → Pair → Bool
are_paired now files pair = list_any (is_paired_in now files pair) files

-- two nodes hold by their own words
abbrev pub is_held_twice : ℕ → List Shown → Bool
is_held_twice now files = are_paired now files Two

-- two nodes hold at a time, and not one after the other
abbrev pub is_contested : ℕ → List Shown → Bool
is_contested now files = are_paired now files TwoAtATime

-- the peer of that id told the node how it is
abbrev pub is_teller : ℕ → List Shown → Shown → NodeId → Peer → Bool
is_teller now files file id peer = (peer.id.0 == id.0) && is_some (told_voice now files file peer)

-- a node that has a live file, or told this one
abbrev pub has_voice : ℕ → List Shown → Shown → NodeId → Bool
has_voice now files file id = is_here now files id || list_any (is_teller now files file id) file.peers.items

-- each node that may hold has a voice: those of the view of a quorate node; a node that is not quorate knows nothing of who is silent
abbrev pub are_all_told : ℕ → List Shown → Shown → Bool
are_all_told now files file =
    if file.answer.quorate then list_all (has_voice now files file) (members_of file.view)
    else list_all (λ peer. has_voice now files file peer.id) file.peers.items

-- nothing is wrong by the node's word
abbrev pub is_voice_well : Voice → Bool
is_voice_well voice = voice.quorate && not voice.leaving && (not voice.holds || is_fine voice.group)

-- a Hello of the peer came lately
abbrev pub is_heard : ℕ → Shown → Peer → Bool
is_heard now file peer = option_map_or (is_fresh now file) peer.hello_tick false

-- the node sees the peer over each network, and nothing is wrong by the peer's word
abbrev pub is_peer_well : ℕ → List Shown → Shown → Peer → Bool
is_peer_well now files file peer =
    is_heard now file peer && not (is_some peer.network_down) && (is_here now files peer.id || option_map_or is_voice_well (told_voice now files file peer) false)

abbrev pub is_in_service : Phase → Bool
is_in_service Booting = true
is_in_service Up = true
is_in_service Leaving = true
is_in_service Dying = false
is_in_service Gone = false

-- nothing is wrong with the node, its images and its arbiter, and with the nodes that it knows
abbrev pub is_well : ℕ → List Shown → Shown → Bool
is_well now files file =
    is_live now file && is_voice_well (voice_of file) && is_in_service file.phase && is_quiet file.mailbox.state
    && not (is_some file.images) && is_arbiter_well file
    && list_all (is_peer_well now files file) file.peers.items
