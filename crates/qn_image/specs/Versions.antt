-- What the sectors of an image of either version spell, and where its mailboxes stand: this project's profile.
use Rattle.std.specs.Prelude.{ℕ, ◌==◌, List, Option, None, Some, option_map, if◌then◌else◌}
use Rattle.std.specs.Option.{option_or}
use Rattle.qn_model.specs.declared.mailbox.Mail.{Mail}
use Rattle.qn_model.specs.declared.times.Timing.{Timing}
use Rattle.qn_model.specs.Sectors.{anonymous, mail_place, mail_place_1}
use Rattle.qn_sector.specs.Reading.{header_of, header_of_1, mail_of, mail_of_1}

-- a header, with its version first
abbrev pub with_version : ℕ → Option (ℕ × Timing) → Option (ℕ × ℕ × Timing)
with_version version None = None
with_version version (Some header) = Some (version, header.0, header.1)

-- the version, the number of nodes and the times of the header that the sector spells
unfoldable pub any_header_of : List ℕ → Option (ℕ × ℕ × Timing)
any_header_of sector = option_or (with_version 2 (header_of sector)) (with_version 1 (header_of_1 sector))

-- the sector of a rank's mailbox
abbrev pub mailbox_place : ℕ → ℕ → ℕ
mailbox_place version rank = if version == 1 then mail_place_1 rank else mail_place rank

-- the mailbox that the sector spells; in version 1 nobody is named
abbrev pub mailbox_of : ℕ → List ℕ → Option Mail
mailbox_of version sector = if version == 1 then option_map anonymous (mail_of_1 sector) else mail_of sector
