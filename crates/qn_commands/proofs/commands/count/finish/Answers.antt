use Rattle.std.proofs.Common.{◌≡◌, ◌++◌, ℕ, List, arith, refl, subst}
use Rattle.std.specs.Io.KnownBytes.{append_known}
use Rattle.qn_base.specs.Rising.{HasRisen-within}
use Rattle.qn_commands.specs.Endings.{Whole, Cut}
use Rattle.qn_io.specs.Writes.{AppendsFront}
use Rattle.qn_playback.specs.Writing.{written_all, written_prefix}
use Rattle.qn_commands.proofs.commands.count.finish.Goals as goal

pub returns-in_default-flush-clause-answers : goal.returns-in_default-flush-clause-answers
returns-in_default-flush-clause-answers g c =
    let rose = HasRisen-within _ _ _ _ c.in-Ok.ensures.never_falls (omega arith) (omega arith) c.in_default-flush.ensures.cause in
    Cut refl rose
    (subst (λ (t : List ℕ). AppendsFront (g.O.Sink.written c.args.out.now) (g.O.Sink.written c.flush.new.out) (c.args.output.now ++ t)) c.as_slice.ensures
    (written_prefix c.in-Ok.ensures.given c.in_default-flush.ensures.prefix))

pub returns-clause-answers : goal.returns-clause-answers
returns-clause-answers g c =
    Whole refl
    (subst (λ (t : List ℕ). g.O.Sink.written c.flush.new.out ≡ append_known (g.O.Sink.written c.args.out.now) (c.args.output.now ++ t)) c.as_slice.ensures
    (written_all c.in-Ok.ensures.given c.in-Ok-flush.ensures.whole))
