-- A list of members while its parts are judged one by one.
use Rattle.std.specs.Prelude.{ℕ, ◌^◌, Bool, true, false, ◌&&◌, nat_lt, List, [], ◌∷◌, Option, None, Some, Result, Ok, Err, slice_index, bit_or, if◌then◌else◌}
use Rattle.qn_base.specs.declared.ids.Mask.{Mask}
use Rattle.qn_base.specs.declared.ids.Rank.{Rank}
use Rattle.qn_model.specs.declared.line_fault.LineFault.{LineFault}
use Rattle.qn_model.specs.declared.line_fault.LineFault.TheVariants.{BadView}
use Rattle.qn_model.specs.Lines.{◌>>=◌, known_rank}
use Rattle.qn_sched.specs.declared.members.MemberList.{MemberList}

-- the number of a rank
abbrev pub rank_number : Result Rank LineFault → Result ℕ LineFault
rank_number (Ok rank) = Ok rank.0
rank_number (Err fault) = Err fault

-- whether an id stands above the one before it
abbrev pub is_above : Option ℕ → ℕ → Bool
is_above None id = true
is_above (Some last) id = nat_lt last id

-- nothing judged yet
abbrev pub no_members : MemberList
no_members = record { ranks = 0; last = None; is_sound = true }

-- one more member
abbrev pub with_rank : MemberList → ℕ → ℕ → MemberList
with_rank list rank id = record {
  ranks = bit_or list.ranks (2 ^ rank);
  last = Some id;
  is_sound = list.is_sound && is_above list.last id;
}

-- one more part
unfoldable pub with_part : List ℕ → MemberList → List ℕ → Result MemberList LineFault
with_part ids list [] = Ok (record { ranks = list.ranks; last = list.last; is_sound = false })
with_part ids list (byte ∷ bytes) = do
  rank ← known_rank ids (byte ∷ bytes)
  Ok (with_rank list rank (slice_index ids rank))

-- no part is left
unfoldable pub finished : MemberList → Result Mask LineFault
finished list = if list.is_sound then Ok (record { 0 = list.ranks }) else Err BadView

-- the parts that are left, and then the end
abbrev pub with_parts : List ℕ → MemberList → List (List ℕ) → Result Mask LineFault
with_parts ids list [] = finished list
with_parts ids list (part ∷ parts) = with_part ids list part >>= (λ more. with_parts ids more parts)
