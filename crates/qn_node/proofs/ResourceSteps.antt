-- One entry more, and what a node does with the resource.
use Rattle.std.proofs.Common.{◌≡◌, ℕ, Bool, true, false, List, ◌∷◌, refl, sym, ap, ◌∙◌, ◌⊎◌, inl, inr, subst, not, ◌&&◌}
use Rattle.std.specs.Prelude.{if◌then◌else◌}
use Rattle.qn_model.specs.declared.entries.What.{What}
use Rattle.qn_model.specs.declared.entries.What.TheVariants as what
use Rattle.qn_model.specs.declared.outputs.Out.{Out}
use Rattle.qn_model.specs.Log.{Line, has_start, has_stop}
use Rattle.qn_model.specs.Holding.{answers_stop, holds, is_stopped, may_stop, stop_due}
use Rattle.qn_node.specs.declared.resource.Resource.{Resource}
use Rattle.qn_node.specs.declared.resource.Resource.TheVariants as resource
use Rattle.qn_node.specs.Resource.{ResourceFor, after_entry, after_outs, after_stop, is_held, is_stopping}

-- an entry that answers no Stop
record IsNoStop (w : What) : Type 0 where
  unanswered : answers_stop w ≡ false
  unstopped : is_stopped w ≡ false
  keeps : (tick : ℕ) (r : Resource) → after_entry tick w r ≡ r

stop_cases : (w : What) → IsNoStop w ⊎ ((ok : Bool) × (w ≡ what.Stopped ok))
stop_cases what.Begin = inl (record { unanswered = refl; unstopped = refl; keeps = λ tick r. refl })
stop_cases what.BeginClean = inl (record { unanswered = refl; unstopped = refl; keeps = λ tick r. refl })
stop_cases (what.Header seen) = inl (record { unanswered = refl; unstopped = refl; keeps = λ tick r. refl })
stop_cases (what.SlotRead rank seen) = inl (record { unanswered = refl; unstopped = refl; keeps = λ tick r. refl })
stop_cases (what.MailChecked seen) = inl (record { unanswered = refl; unstopped = refl; keeps = λ tick r. refl })
stop_cases (what.Claimed ok) = inl (record { unanswered = refl; unstopped = refl; keeps = λ tick r. refl })
stop_cases (what.Cleared ok) = inl (record { unanswered = refl; unstopped = refl; keeps = λ tick r. refl })
stop_cases (what.MailRead seen) = inl (record { unanswered = refl; unstopped = refl; keeps = λ tick r. refl })
stop_cases (what.MailWritten rank ok) = inl (record { unanswered = refl; unstopped = refl; keeps = λ tick r. refl })
stop_cases (what.View view) = inl (record { unanswered = refl; unstopped = refl; keeps = λ tick r. refl })
stop_cases (what.Ask ask) = inl (record { unanswered = refl; unstopped = refl; keeps = λ tick r. refl })
stop_cases (what.Tell tell) = inl (record { unanswered = refl; unstopped = refl; keeps = λ tick r. refl })
stop_cases (what.Device agrees) = inl (record { unanswered = refl; unstopped = refl; keeps = λ tick r. refl })
stop_cases what.Tick = inl (record { unanswered = refl; unstopped = refl; keeps = λ tick r. refl })
stop_cases (what.Stopped ok) = inr (ok, refl)
stop_cases what.Leave = inl (record { unanswered = refl; unstopped = refl; keeps = λ tick r. refl })
stop_cases (what.Closed ok) = inl (record { unanswered = refl; unstopped = refl; keeps = λ tick r. refl })

and_true : (b : Bool) → b && not false ≡ b
and_true true = refl
and_true false = refl

-- an entry that answers no Stop changes nothing
taken_other : (r : Resource) (past : List Line) (line : Line) → ResourceFor r past → has_start line.outs ≡ false → has_stop line.outs ≡ false
    → IsNoStop line.what → ResourceFor r (line ∷ past)
unfolding holds stop_due may_stop
taken_other r past line stands no_start no_stop other = record {
  has = rw (no_start, other.unstopped) (and_true (holds past) ∙ stands.has);
  waits = rw (no_stop, other.unanswered) (and_true (stop_due past) ∙ stands.waits);
  again = λ held wait tick. rw (no_start, no_stop, other.unanswered) (stands.again held wait tick);
}

and_false : (b : Bool) → b && false ≡ false
and_false true = refl
and_false false = refl

-- the answer of a Stop that is unanswered
taken_stop : (ok : Bool) (past : List Line) (line : Line) → holds past ≡ true → has_start line.outs ≡ false → has_stop line.outs ≡ false
    → line.what ≡ what.Stopped ok → ResourceFor (after_stop line.tick ok resource.Stopping) (line ∷ past)
unfolding holds stop_due may_stop
taken_stop true past line held no_start no_stop is = record {
  has = rw (no_start, is) (and_false (holds past));
  waits = rw (no_stop, is) (and_false (stop_due past));
  again = λ still wait tick. absurd (cc);
}
taken_stop false past line held no_start no_stop is = record {
  has = rw (no_start, is) (and_true (holds past) ∙ held);
  waits = rw (no_stop, is) (and_false (stop_due past));
  again = λ still wait tick. rw (no_start, no_stop, is);
}

-- a node with a Stop unanswered is stopping, and holds
stopping : (r : Resource) → is_stopping r ≡ true → r ≡ resource.Stopping
stopping resource.Free e = absurd (cc)
stopping resource.Held e = absurd (cc)
stopping resource.Stopping e = refl
stopping (resource.StopFailed tick) e = absurd (cc)

free_idle : (r : Resource) → is_held r ≡ false → is_stopping r ≡ false
free_idle resource.Free e = refl
free_idle resource.Held e = refl
free_idle resource.Stopping e = absurd (cc)
free_idle (resource.StopFailed tick) e = refl

taken_cases : (r : Resource) (past : List Line) (line : Line) → ResourceFor r past → has_start line.outs ≡ false → has_stop line.outs ≡ false
    → (answers_stop line.what ≡ true → stop_due past ≡ true)
    → IsNoStop line.what ⊎ ((ok : Bool) × (line.what ≡ what.Stopped ok))
    → ResourceFor (after_entry line.tick line.what r) (line ∷ past)
taken_cases r past line stands no_start no_stop fits (inl other) =
    let same = other.keeps line.tick r in rw same (taken_other r past line stands no_start no_stop other)
taken_cases r past line stands no_start no_stop fits (inr (ok, is)) =
    let due : stop_due past ≡ true = fits (ap answers_stop is) in
    let now : r ≡ resource.Stopping = stopping r (sym stands.waits ∙ due) in
    let held : holds past ≡ true = stands.has ∙ ap is_held now in
    subst (λ w. ResourceFor (after_entry line.tick w r) (line ∷ past)) (sym is)
    (subst (λ before. ResourceFor (if is_stopping before then after_stop line.tick ok before else before) (line ∷ past)) (sym now)
    (taken_stop ok past line held no_start no_stop is))

-- an entry that fits was taken in, and gave no Stop and no Start yet
pub resource_taken : (r : Resource) (past : List Line) (line : Line) → ResourceFor r past → has_start line.outs ≡ false → has_stop line.outs ≡ false
    → (answers_stop line.what ≡ true → stop_due past ≡ true) → ResourceFor (after_entry line.tick line.what r) (line ∷ past)
resource_taken r past line stands no_start no_stop fits = taken_cases r past line stands no_start no_stop fits (stop_cases line.what)

-- a Stop or a Start was given at the newest entry
pub resource_given : (r : Resource) (past : List Line) (line : Line) (outs : List Out) (stops starts : Bool) → ResourceFor r (line ∷ past)
    → has_start line.outs ≡ false → has_stop line.outs ≡ false → has_start outs ≡ starts → has_stop outs ≡ stops
    → (stops ≡ true → is_held r ≡ true) → (starts ≡ true → is_held r ≡ false)
    → ResourceFor (after_outs stops starts r) (record line { outs = outs } ∷ past)
unfolding holds stop_due may_stop
resource_given r past line outs true true stands no_start no_stop start stop held free = absurd (let z : true ≡ false = sym (held refl) ∙ free refl in cc)
resource_given r past line outs true false stands no_start no_stop start stop held free = record {
  has = rw start (rw no_start at stands.has ∙ held refl);
  waits = rw stop;
  again = λ still wait tick. rw (start, stop);
}
resource_given r past line outs false true stands no_start no_stop start stop held free = record {
  has = rw start;
  waits = rw stop (rw no_stop at stands.waits ∙ free_idle r (free refl));
  again = λ still wait tick. rw start;
}
resource_given r past line outs false false stands no_start no_stop start stop held free = record {
  has = rw start (rw no_start at stands.has);
  waits = rw stop (rw no_stop at stands.waits);
  again = λ still wait tick. rw (start, stop) (rw (no_start, no_stop) at stands.again still wait tick);
}
