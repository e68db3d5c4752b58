use Rattle.std.proofs.Common.{◌≡◌, rules, ap, ◌∙◌}
use Rattle.qn_base.specs.declared.ids.Mask.{Mask}
use Rattle.qn_base.specs.Members.{is_member}
use Rattle.qn_member.specs.Maker.{company_at}
use Rattle.qn_member.proofs.Companies.{company_has_own}
use Rattle.qn_member.proofs.member.Member.company.Goals as goal

pub returns-in-Some-clause-own : goal.returns-in-Some-clause-own
returns-in-Some-clause-own c =
    let exact : c.company_under.result ≡ company_at c.args.self.now = search rules in
    λ leads. ap (λ (mask : Mask). is_member mask c.args.self.now.me) exact ∙ company_has_own c.args.self.now leads
