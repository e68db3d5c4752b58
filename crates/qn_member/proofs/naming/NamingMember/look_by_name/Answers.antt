use Rattle.std.proofs.Common.{◌≡◌, ◌<◌, ℕ, true, length, ap, ap₂, subst, ◌∙◌}
use Rattle.std.specs.Prelude.{IfSome}
use Rattle.qn_base.specs.declared.ids.Mask.{Mask}
use Rattle.qn_base.specs.Members.{is_member}
use Rattle.qn_member.specs.Maker.{Maker}
use Rattle.qn_member.specs.Naming.{NamingMaker}
use Rattle.qn_member.specs.NamingViews.{company_now, looked_by_name, next_by_name, noted_by_name, seeing_names, view_by_name}
use Rattle.qn_member.proofs.Kept.{members_configured}
use Rattle.qn_member.proofs.Leaders.{noted_me, noted_nodes, same_installed}
use Rattle.qn_member.proofs.naming.NamingMember.look_by_name.Goals as goal

pub returns-clause-view : goal.returns-clause-view
returns-clause-view c =
    c.next_by_name-next.ensures.exact
    ∙ ap₂ (λ (m : NamingMaker) (mask : Mask). next_by_name c.args.tick m mask)
    (c.note_by_name-company.ensures.after ∙ ap (noted_by_name c.args.tick) c.see_names.ensures.exact)
    (c.note_by_name-company.ensures.company ∙ ap company_now c.see_names.ensures.exact)

pub returns-clause-after : goal.returns-clause-after
returns-clause-after c =
    let knows : c.note_by_name-company.new.self ≡ looked_by_name c.args.tick c.args.self.now =
    c.note_by_name-company.ensures.after ∙ ap (noted_by_name c.args.tick) c.see_names.ensures.exact in
    let company : c.note_by_name-company.result ≡ company_now (seeing_names c.args.tick c.args.self.now) =
    c.note_by_name-company.ensures.company ∙ ap company_now c.see_names.ensures.exact in
    let view : c.next_by_name-next.result ≡ view_by_name c.args.tick c.args.self.now =
    c.next_by_name-next.ensures.exact ∙ ap₂ (λ (m : NamingMaker) (mask : Mask). next_by_name c.args.tick m mask) knows company in
    let inside = c.self.view_is ∙ knows in
    let made = c.install_beside.ensures
    ∙ same_installed c.note_by_name-company.result _ c.next_by_name-next.result _ c.self.inside.member (looked_by_name c.args.tick c.args.self.now).maker company view (ap (λ (m : NamingMaker). m.maker) inside) in
    ap (λ (m : NamingMaker). record m { maker = c.install_beside.new.self }) inside
    ∙ ap (λ (maker : Maker). record (looked_by_name c.args.tick c.args.self.now) { maker = maker }) made

pub returns-clause-contains : goal.returns-clause-contains
returns-clause-contains c =
    let next = c.next_by_name-next.result in
    subst (λ me. IfSome next (λ view. is_member view.members me ≡ true))
    (ap (λ (m : NamingMaker). m.maker.me) (c.note_by_name-company.ensures.after ∙ ap (noted_by_name c.args.tick) c.see_names.ensures.exact)
    ∙ noted_me c.args.tick (seeing_names c.args.tick c.args.self.now))
    c.next_by_name-next.ensures.contains

pub returns-clause-configured : goal.returns-clause-configured
returns-clause-configured c =
    let next = c.next_by_name-next.result in
    subst (λ nodes. IfSome next (λ view. (rank : ℕ) → is_member view.members rank ≡ true → rank < length nodes))
    (ap (λ (m : NamingMaker). m.maker.nodes) (c.note_by_name-company.ensures.after ∙ ap (noted_by_name c.args.tick) c.see_names.ensures.exact)
    ∙ noted_nodes c.args.tick (seeing_names c.args.tick c.args.self.now))
    (members_configured _ next c.next_by_name-next.ensures.configured)
