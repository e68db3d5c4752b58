use Rattle.std.proofs.Common.{◌≡◌, ◌<◌, ℕ, true, length, ap, subst, ◌∙◌}
use Rattle.std.specs.Prelude.{IfSome, Option}
use Rattle.qn_base.specs.declared.ids.View.{View}
use Rattle.qn_base.specs.Members.{is_member}
use Rattle.qn_member.specs.Maker.{Maker, after_tick, installed, looked, next_view, noted, view_at}
use Rattle.qn_member.proofs.Kept.{members_configured}
use Rattle.qn_member.proofs.member.Member.on_tick.Goals as goal

pub returns-clause-view : goal.returns-clause-view
unfolding view_at
returns-clause-view c =
    c.next_view-next.ensures.exact ∙ ap (next_view c.args.tick) (c.note.ensures.exact ∙ ap (noted c.args.tick) c.see.ensures.exact)

pub returns-clause-after : goal.returns-clause-after
unfolding after_tick view_at
returns-clause-after c =
    let knows : c.note.new.self ≡ looked c.args.tick c.args.self.now = c.note.ensures.exact ∙ ap (noted c.args.tick) c.see.ensures.exact in
    c.install.ensures
    ∙ (ap (λ (found : Option View). installed found c.note.new.self) (c.next_view-next.ensures.exact ∙ ap (next_view c.args.tick) knows)
    ∙ ap (installed (view_at c.args.tick c.args.self.now)) knows)

pub returns-clause-configured : goal.returns-clause-configured
returns-clause-configured c =
    let next = c.next_view-next.result in
    subst (λ nodes. IfSome next (λ view. (rank : ℕ) → is_member view.members rank ≡ true → rank < length nodes))
    (ap (λ (m : Maker). m.nodes) (c.note.ensures.exact ∙ ap (noted c.args.tick) c.see.ensures.exact))
    (members_configured _ next c.next_view-next.ensures.configured)
