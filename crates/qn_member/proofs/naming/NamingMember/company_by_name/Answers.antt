use Rattle.std.proofs.Common.{ap, ◌∙◌}
use Rattle.qn_base.specs.declared.ids.Mask.{Mask}
use Rattle.qn_base.specs.Members.{is_member}
use Rattle.qn_member.proofs.Leaders.{leader_by_name_within, led_has_itself}
use Rattle.qn_member.proofs.naming.NamingMember.company_by_name.Goals as goal

pub returns-then-eq-clause-own : goal.returns-then-eq-clause-own
returns-then-eq-clause-own c =
    let m = c.args.self.now in
    λ leads.
    ap (λ (mask : Mask). is_member mask m.maker.me) c.led_by_name.ensures.exact
    ∙ led_has_itself m (leader_by_name_within m c.args.facts.now m.maker.me leads)
