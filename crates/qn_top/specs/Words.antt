-- The words of the command line: this project's profile.
use Rattle.std.specs.Prelude.{◌==◌, ◌≤◌, ℕ, Bool, false, ◌||◌, List, [], ◌∷◌, Option, Some, None, codes, length, nat_lt, not, ◌&&◌, option_map, if◌then◌else◌}
use Rattle.std.specs.Option.{option_map_or}
use Rattle.std.specs.Str.{bytes_eq}
use Rattle.qn_base.specs.Decimal.{number_of}
use Rattle.qn_base.specs.declared.ids.NodeId.{NodeId}
use Rattle.qn_base.specs.declared.limits.TheConstants.{LONGEST_PERIOD, MOST_EVENTS}
use Rattle.qn_model.specs.declared.disk.Message.{Message}
use Rattle.qn_model.specs.declared.disk.Message.TheVariants.{Empty, Test, Reset, Off, Exit, Crashdump}
use Rattle.qn_model.specs.declared.times.Timing.{Timing}
use Rattle.qn_model.specs.Lines.{parts}
use Rattle.qn_model.specs.Messages.{operator_word}
use Rattle.qn_model.specs.Timing.{usual_times}
use Rattle.qn_arbitrating.specs.declared.command.ArbiterWords.{ArbiterWords}
use Rattle.qn_running.specs.declared.commands.audit.AuditWords.{AuditWords}
use Rattle.qn_running.specs.declared.commands.node.NodeWords.{NodeWords}
use Rattle.qn_live.specs.declared.node_images.NodeImages.{NodeImages}
use Rattle.qn_live.specs.declared.node_images.NodeImages.TheVariants as images
use Rattle.qn_top.specs.declared.command.Command.{Command}
use Rattle.qn_top.specs.declared.command.Command.TheVariants as command
use Rattle.qn_top.specs.declared.command.Form.{Form}
use Rattle.qn_top.specs.declared.command.Form.TheVariants as form
use Rattle.qn_top.specs.declared.command.TheConstants.{MOST_ARBITER_TURNS, MOST_TURNS, USUAL_PORT}
use Rattle.qn_top.specs.declared.command_name.CommandName.{CommandName}
use Rattle.qn_top.specs.declared.command_name.CommandName.TheVariants as name
use Rattle.qn_top.specs.declared.options.OptionName.{OptionName}
use Rattle.qn_top.specs.declared.options.OptionName.TheVariants as option
use Rattle.qn_top.specs.Names.{name_of}
use Rattle.qn_top.specs.Options.{are_options, option_text, value_of}

-- go on with the value, where there is one
infixl 10 ◌>>=◌
abbrev pub ◌>>=◌ : {A B : Type 0} → Option A → (A → Option B) → Option B
None >>= next = None
(Some value) >>= next = next value

-- a number in a range; leading zeros are good
unfoldable pub number_in : ℕ → ℕ → List ℕ → Option ℕ
number_in least greatest word = do
  number ← number_of word
  if nat_lt number least || nat_lt greatest number then None else Some number

-- the first of some parts as a time in milliseconds, and the parts after it
abbrev pub next_time : List (List ℕ) → Option (ℕ × List (List ℕ))
next_time [] = None
next_time (part ∷ parts) = do
  time ← number_in 1 LONGEST_PERIOD part
  Some (time, parts)

-- five times, separated by commas
unfoldable pub timing_in : List ℕ → Option Timing
timing_in text = do
  first ← next_time (parts 44 text)
  second ← next_time first.1
  third ← next_time second.1
  fourth ← next_time third.1
  fifth ← next_time fourth.1
  if not (length fifth.1 == 0) then None
      else Some (record { watchdog = first.0; msgwait = second.0; loop_ms = third.0; read_limit = fourth.0; feed_delay = fifth.0 })

-- the times among the options, or the usual ones
unfoldable pub timing_of : List (List ℕ) → Option Timing
timing_of options = option_map_or timing_in (value_of (option_text option.Timing) options) (Some usual_times)

-- the number of an option, in a range
unfoldable pub number_of_option : OptionName → ℕ → ℕ → List (List ℕ) → Option ℕ
number_of_option name least greatest options = do
  word ← value_of (option_text name) options
  number_in least greatest word

-- the id among the options
unfoldable pub id_of : List (List ℕ) → Option NodeId
id_of options = do
  id ← number_of_option option.Id 1 4294967295 options
  Some (record { 0 = id })

-- sbd(8), `message`: the messages that an operator may send
abbrev pub kind_named : List ℕ → Option Message
kind_named word =
    if bytes_eq word (operator_word Empty) then Some Empty
    else if bytes_eq word (operator_word Test) then Some Test
    else if bytes_eq word (operator_word Reset) then Some Reset
    else if bytes_eq word (operator_word Off) then Some Off
    else if bytes_eq word (operator_word Exit) then Some Exit
    else if bytes_eq word (operator_word Crashdump) then Some Crashdump
    else None

-- the message among the options
unfoldable pub kind_of : List (List ℕ) → Option Message
kind_of options = do
  word ← value_of (option_text option.Kind) options
  kind_named word

-- the path of an image, which is the only option
unfoldable pub image_alone : List (List ℕ) → Option (List ℕ)
image_alone options =
    if not (are_options (option.Image ∷ []) options) then None else value_of (option_text option.Image) options

-- the forms of a status
abbrev pub form_named : List ℕ → Option Form
form_named word =
    if bytes_eq word (codes "text") then Some form.Text
    else if bytes_eq word (codes "json") then Some form.Json
    else None

-- the form, which is the only option; text where none is written
unfoldable pub form_of : List (List ℕ) → Option Form
form_of options =
    if not (are_options (option.Form ∷ []) options) then None
    else option_map_or form_named (value_of (option_text option.Form) options) (Some form.Text)

-- `soak`: two plain words
unfoldable pub soak_of : List (List ℕ) → Option Command
soak_of (seed ∷ events ∷ []) = do
  first ← number_of seed
  count ← number_in 1 MOST_EVENTS events
  Some (command.Soak first count)
soak_of words = None

-- `create`
unfoldable pub create_of : List (List ℕ) → Option Command
create_of options =
    if not (are_options (option.Image ∷ option.Timing ∷ []) options) then None
    else do
      image ← value_of (option_text option.Image) options
      timing ← timing_of options
      Some (command.Create image timing)

-- `message`
unfoldable pub message_of : List (List ℕ) → Option Command
message_of options =
    if not (are_options (option.Image ∷ option.Id ∷ option.Kind ∷ []) options) then None
    else do
      image ← value_of (option_text option.Image) options
      id ← id_of options
      kind ← kind_of options
      Some (command.Message image id kind)

-- the turn from which on a node is to leave, where one is written
abbrev pub turn_in : List ℕ → Option (Option ℕ)
turn_in word = option_map Some (number_in 1 MOST_TURNS word)

unfoldable pub leave_of : List (List ℕ) → Option (Option ℕ)
leave_of options = option_map_or turn_in (value_of (option_text option.Leave) options) (Some None)

-- sbd(8), start modes: whether the start is a clean one, which is mode 1; mode 0 where none is written
abbrev pub mode_in : List ℕ → Option Bool
mode_in word = option_map (λ mode. mode == 1) (number_in 0 1 word)

unfoldable pub mode_of : List (List ℕ) → Option Bool
mode_of options = option_map_or mode_in (value_of (option_text option.StartMode) options) (Some false)

-- on which images a node ran: one or three; one where nothing is written
abbrev pub images_by : ℕ → Option NodeImages
images_by count = if count == 1 then Some images.One else if count == 3 then Some images.Three else None

abbrev pub images_in : List ℕ → Option NodeImages
images_in word = do
  count ← number_in 1 3 word
  images_by count

unfoldable pub images_of : List (List ℕ) → Option NodeImages
images_of options = option_map_or images_in (value_of (option_text option.Images) options) (Some images.One)

-- `node`, `node3`, `node-logged` and `node3-logged`
abbrev pub node_options : List OptionName
node_options =
    option.Id ∷ option.Image ∷ option.Watchdog ∷ option.Resource ∷ option.Port ∷ option.Turns ∷ option.Leave
    ∷ option.StartMode ∷ []

unfoldable pub node_words : List (List ℕ) → Option NodeWords
node_words options =
    if not (are_options node_options options) then None
    else do
      id ← id_of options
      image ← value_of (option_text option.Image) options
      watchdog ← value_of (option_text option.Watchdog) options
      resource ← value_of (option_text option.Resource) options
      port ← number_of_option option.Port 1024 65000 options
      turns ← number_of_option option.Turns 1 MOST_TURNS options
      leave ← leave_of options
      clean ← mode_of options
      Some (record {
        id = id;
        image = image;
        watchdog = watchdog;
        resource = resource;
        port = port;
        turns = turns;
        leave = leave;
        clean = clean;
      })

-- no two of three paths are the same
abbrev pub all_differ : List ℕ → List ℕ → List ℕ → Bool
all_differ one two three = not (bytes_eq one two) && not (bytes_eq one three) && not (bytes_eq two three)

-- exactly three paths, of which no two are the same
abbrev pub are_three_paths : List (List ℕ) → Bool
are_three_paths [] = false
are_three_paths (one ∷ []) = false
are_three_paths (one ∷ two ∷ []) = false
are_three_paths (one ∷ two ∷ three ∷ more) = (length more == 0) && all_differ one two three

-- the image of `node3` is three paths, separated by commas; that of `node` is one path, commas included
unfoldable pub node3_words : List (List ℕ) → Option NodeWords
node3_words options = do
  words ← node_words options
  if not (are_three_paths (parts 44 words.image)) then None else Some words

-- the limit within which a node took a reply of its arbiter, where one is written
abbrev pub limit_in : List ℕ → Option (Option ℕ)
limit_in word = option_map Some (number_in 1 LONGEST_PERIOD word)

unfoldable pub polls_of : List (List ℕ) → Option (Option ℕ)
polls_of options = option_map_or limit_in (value_of (option_text option.Polls) options) (Some None)

-- `audit`
abbrev pub audit_options : List OptionName
audit_options = option.Id ∷ option.Turns ∷ option.Leave ∷ option.StartMode ∷ option.Images ∷ option.Polls ∷ []

unfoldable pub audit_words : List (List ℕ) → Option AuditWords
audit_words options =
    if not (are_options audit_options options) then None
    else do
      id ← id_of options
      turns ← number_of_option option.Turns 1 MOST_TURNS options
      leave ← leave_of options
      clean ← mode_of options
      images ← images_of options
      polls ← polls_of options
      Some (record { images = images; id = id; turns = turns; leave = leave; polls = polls; clean = clean })

-- the number of an option, in a range; this one where none is written
unfoldable pub number_or : OptionName → ℕ → ℕ → ℕ → List (List ℕ) → Option ℕ
number_or name least greatest usual options =
    option_map_or (number_in least greatest) (value_of (option_text name) options) (Some usual)

-- `arbiter`
unfoldable pub arbiter_words : List (List ℕ) → Option ArbiterWords
arbiter_words options =
    if not (are_options (option.Port ∷ option.Turns ∷ []) options) then None
    else do
      port ← number_or option.Port 1024 65000 USUAL_PORT options
      turns ← number_or option.Turns 1 MOST_ARBITER_TURNS MOST_ARBITER_TURNS options
      Some (record { port = port; turns = turns })

-- the command of this name, with these options
abbrev pub command_with : CommandName → List (List ℕ) → Option Command
command_with name.Count options = if are_options [] options then Some command.Count else None
command_with name.Replay options = if are_options [] options then Some command.Replay else None
command_with name.Status options = option_map command.Status (form_of options)
command_with name.Soak options = soak_of options
command_with name.Create options = create_of options
command_with name.Dump options = option_map command.Dump (image_alone options)
command_with name.List options = option_map command.List (image_alone options)
command_with name.Message options = message_of options
command_with name.Node options = option_map command.Node (node_words options)
command_with name.Migrate options = option_map command.Migrate (image_alone options)
command_with name.Replay3 options = if are_options [] options then Some command.Replay3 else None
command_with name.Node3 options = option_map command.Node3 (node3_words options)
command_with name.ReplayArbiter options = if are_options [] options then Some command.ReplayArbiter else None
command_with name.NodeLogged options = option_map command.NodeLogged (node_words options)
command_with name.Audit options = option_map command.Audit (audit_words options)
command_with name.Node3Logged options = option_map command.Node3Logged (node3_words options)
command_with name.Arbiter options = option_map command.Arbiter (arbiter_words options)
command_with name.Help options = if are_options [] options then Some command.Help else None

-- the command that the words are, where they are one
abbrev pub command_of : List (List ℕ) → Option Command
command_of [] = None
command_of (word ∷ options) = do
  name ← name_of word
  command_with name options

-- a soak has at most MOST_EVENTS events, and a node runs at least one turn, or is to have run one
abbrev pub IsProper : Command → Type 0
IsProper command.Count = Unit {0}
IsProper command.Replay = Unit {0}
IsProper (command.Status form) = Unit {0}
IsProper (command.Soak seed events) = events ≤ MOST_EVENTS
IsProper (command.Create image timing) = Unit {0}
IsProper (command.Dump image) = Unit {0}
IsProper (command.List image) = Unit {0}
IsProper (command.Message image id kind) = Unit {0}
IsProper (command.Node words) = 1 ≤ words.turns
IsProper (command.Migrate image) = Unit {0}
IsProper command.Replay3 = Unit {0}
IsProper (command.Node3 words) = 1 ≤ words.turns
IsProper command.ReplayArbiter = Unit {0}
IsProper (command.NodeLogged words) = 1 ≤ words.turns
IsProper (command.Audit words) = 1 ≤ words.turns
IsProper (command.Node3Logged words) = 1 ≤ words.turns
IsProper (command.Arbiter words) = Unit {0}
IsProper command.Help = Unit {0}
