-- What an operator asks of the node of this host by quorumctl, and what becomes of it, by the node's status file. This project's profile; the words are
-- those of Pacemaker's standby and move.
use Rattle.std.specs.Prelude.{ℕ, Bool, true, false, not, ◌+◌, ◌*◌, ◌==◌, ◌&&◌, ◌||◌, List, Option, Some, None, unwrap_or, if◌then◌else◌, nat_le, nat_lt}
use Rattle.std.specs.List.{list_any}
use Rattle.qn_base.specs.declared.ids.NodeId.{NodeId}
use Rattle.qn_control.specs.declared.asking.Decision.{Decision}
use Rattle.qn_control.specs.declared.asking.Decision.TheVariants.{Holds, Refused, Write}
use Rattle.qn_control.specs.declared.asking.Progress.{Progress}
use Rattle.qn_control.specs.declared.asking.Progress.TheVariants as progress
use Rattle.qn_control.specs.declared.asking.Refusal.{Refusal}
use Rattle.qn_control.specs.declared.asking.Refusal.TheVariants as refusal
use Rattle.qn_control.specs.declared.asking.Request.{Request}
use Rattle.qn_control.specs.declared.asking.Request.TheVariants.{CallOff, Fit, Move, Standby, Unstandby}
use Rattle.qn_control.specs.declared.asking.Written.{Written}
use Rattle.qn_shown.specs.declared.shown.Candidate.{Candidate}
use Rattle.qn_shown.specs.declared.shown.Candidate.TheVariants.{Named, Nobody, Unnamed, Unsaid}
use Rattle.qn_shown.specs.declared.shown.Heard.{Heard}
use Rattle.qn_shown.specs.declared.shown.Heard.TheVariants.{Nothing, Said}
use Rattle.qn_shown.specs.declared.shown.Heard.TheVariants as heard
use Rattle.qn_shown.specs.declared.shown.HostStanding.{HostStanding}
use Rattle.qn_shown.specs.declared.shown.Peer.{Peer}
use Rattle.qn_shown.specs.declared.shown.Shown.{Shown}
use Rattle.qn_shown.specs.declared.shown.ShownView.{ShownView}
use Rattle.qn_verdict.specs.Files.{loop_of, members_of}
use Rattle.qn_verdict.specs.Voices.{is_held, is_live}

-- what the host of a node says of it: that it may hold and is not asked for, where the file has nothing of it
abbrev pub said_of : Shown → HostStanding
said_of node = unwrap_or node.standing (record { fit = true; pull = false; standby = false; weight = 0 })

-- the node counts that one as present
abbrev pub is_present : Shown → NodeId → Bool
is_present node id = list_any (λ member. member.0 == id.0) (members_of node.view)

-- what it told last was that it leaves
abbrev pub has_left : Heard → Bool
has_left heard.Unsaid = false
has_left Nothing = false
has_left (Said told tick) = told.leaving

-- neither in the view, nor has it left: who starts the resource has to reset it
abbrev pub is_missing : Shown → Peer → Bool
is_missing node peer = not (is_present node peer.id || has_left peer.told)

abbrev pub has_missing : Shown → Bool
has_missing node = list_any (is_missing node) node.peers.items

-- another node is in its view
abbrev pub has_company : Shown → Bool
has_company node = list_any (λ peer. is_present node peer.id) node.peers.items

-- a view names nobody in particular, as beside a node that knows no names
abbrev pub is_unnamed : Candidate → Bool
is_unnamed Unsaid = true
is_unnamed Unnamed = true
is_unnamed Nobody = false
is_unnamed (Named id) = false

abbrev pub has_no_name : Option ShownView → Bool
has_no_name (Some view) = is_unnamed view.candidate
has_no_name None = true

-- a view says that none of its members may start
abbrev pub is_nobody : Candidate → Bool
is_nobody Unsaid = false
is_nobody Unnamed = false
is_nobody Nobody = true
is_nobody (Named id) = false

abbrev pub names_nobody : Option ShownView → Bool
names_nobody (Some view) = is_nobody view.candidate
names_nobody None = false

-- Why a node that runs is not asked to hold, in this order. `is_sure` is an operator's --yes.
abbrev pub no_move : Bool → Shown → Option Refusal
no_move is_sure node =
    if (said_of node).standby then Some refusal.Standby
    else if not (said_of node).fit then Some refusal.Unfit
    else if not (is_present node node.id) then Some refusal.NotInView
    else if has_no_name node.view then Some refusal.Unnamed
    else if (said_of node).pull then Some refusal.UnderWay
    else if not is_sure && has_missing node then Some refusal.Missing
    else None

-- what a refusal comes to
abbrev pub or_write : Option Refusal → Decision
or_write (Some reason) = Refused reason
or_write None = Write

-- What becomes of a request. A node that does not run goes by its words from its next start on.
abbrev pub decide : Request → Bool → ℕ → Shown → Decision
decide Standby is_sure now node = if is_live now node && not (has_company node) && not is_sure then Refused refusal.Alone else Write
decide Unstandby is_sure now node = Write
decide Fit is_sure now node = Write
decide Move is_sure now node =
    if not (is_live now node) then Refused refusal.NotRunning
    else if node.holds then Holds else or_write (no_move is_sure node)
decide CallOff is_sure now node = Write

-- the node says of itself what was written
abbrev pub is_taken : Request → Shown → Bool
is_taken Standby node = (said_of node).standby
is_taken Unstandby node = not (said_of node).standby
is_taken Fit node = (said_of node).fit
is_taken Move node = node.holds || (said_of node).pull
is_taken CallOff node = not (said_of node).pull

-- A standby that held is waited for until another node holds, or its view has said for six loops that nobody may.
abbrev pub standby_progress : Written → ℕ → List Shown → Shown → Progress
standby_progress written now files node =
    if not written.held then progress.Done
    else if node.holds then progress.Waits
    else if is_held now files then progress.Done
    else if names_nobody node.view && nat_le (6 * loop_of node) written.waited then progress.NobodyMay
    else progress.Waits

-- a move is waited for until the node holds, and for sixty loops at most
abbrev pub move_progress : Written → Shown → Progress
move_progress written node =
    if node.holds then progress.Done
    else if nat_le (60 * loop_of node) written.waited then progress.GaveUp else progress.Waits

abbrev pub taken_progress : Request → Written → ℕ → List Shown → Shown → Progress
taken_progress Standby written now files node = standby_progress written now files node
taken_progress Unstandby written now files node = progress.Done
taken_progress Fit written now files node = progress.Done
taken_progress Move written now files node = move_progress written node
taken_progress CallOff written now files node = progress.Done

-- How far a request is that was written down. A node looks at its words and writes its file twice a second: five seconds and three loops are enough.
abbrev pub progress_of : Written → ℕ → List Shown → Shown → Progress
progress_of written now files node =
    if not (is_live now node) then progress.Ended
    else if is_taken written.request node then taken_progress written.request written now files node
    else if nat_lt (3 * loop_of node + 5000) written.waited then progress.NotTaken else progress.Waits
