use Rattle.std.proofs.Common.{◌≡◌, None, refl, sym, arith, subst, ◌∙◌, [], true, false}
use Rattle.qn_model.specs.declared.entries.What.TheVariants as what
use Rattle.qn_model.specs.declared.life.Phase.TheVariants.{Booting}
use Rattle.qn_model.specs.NodeOutputs.{newest_outs, with_read}
use Rattle.qn_node.specs.declared.resource.Resource.TheVariants as resource
use Rattle.qn_node.specs.Rest.{RestFor}
use Rattle.qn_node.specs.Stage.{StageFor}
use Rattle.qn_node.proofs.BootEntries.{as_read, begin_outs, idle_outs, idle_stands, never_begun}
use Rattle.qn_node.proofs.booting.begin.Goals as goal

pub returns-in-Begin-clause-stands : goal.returns-in-Begin-clause-stands
returns-in-Begin-clause-stands c =
    let s = c.args.own.now.settings in
    let me = c.args.own.now.me.0 in
    as_read (λ w. StageFor c.begun.result s me (with_read s me [] c.args.tick w)) s me [] c.args.what what.Begin c.in-Begin.is refl
    (c.begun.ensures.stands c.args.tick)

pub returns-in-Begin-clause-outs : goal.returns-in-Begin-clause-outs
returns-in-Begin-clause-outs c =
    let s = c.args.own.now.settings in
    let me = c.args.own.now.me.0 in
    as_read (λ w. c.begun.new.outs ≡ newest_outs (with_read s me [] c.args.tick w)) s me [] c.args.what what.Begin c.in-Begin.is refl
    (c.begun.ensures.outs ∙ sym (begin_outs s me c.args.tick false))

pub returns-in-BeginClean-clause-stands : goal.returns-in-BeginClean-clause-stands
returns-in-BeginClean-clause-stands c =
    let s = c.args.own.now.settings in
    let me = c.args.own.now.me.0 in
    as_read (λ w. StageFor c.begun-in-BeginClean.result s me (with_read s me [] c.args.tick w)) s me [] c.args.what what.BeginClean c.in-BeginClean.is refl
    (c.begun-in-BeginClean.ensures.stands c.args.tick)

pub returns-in-BeginClean-clause-outs : goal.returns-in-BeginClean-clause-outs
returns-in-BeginClean-clause-outs c =
    let s = c.args.own.now.settings in
    let me = c.args.own.now.me.0 in
    as_read (λ w. c.begun-in-BeginClean.new.outs ≡ newest_outs (with_read s me [] c.args.tick w)) s me [] c.args.what what.BeginClean c.in-BeginClean.is refl
    (c.begun-in-BeginClean.ensures.outs ∙ sym (begin_outs s me c.args.tick true))

unbegun : (c : goal.In-Header) → c.args.what ≡ what.Begin → ⊥
unbegun c begun = grind (arith, c.in-Header.is, begun)

not_begun_clean : (c : goal.In-Header) → c.args.what ≡ what.BeginClean → ⊥
not_begun_clean c begun = grind (arith, c.in-Header.is, begun)

pub returns-in-Header-clause-stands : goal.returns-in-Header-clause-stands
returns-in-Header-clause-stands c =
    let s = c.args.own.now.settings in
    let me = c.args.own.now.me.0 in
    let never = never_begun s me c.args.tick c.args.what (unbegun c) (not_begun_clean c) in
    subst (λ w. RestFor (record { phase = Booting; claims = None; resource = resource.Free }) s (with_read s me [] c.args.tick w)) (sym never)
    (idle_stands s me c.args.tick)

pub returns-in-Header-clause-outs : goal.returns-in-Header-clause-outs
returns-in-Header-clause-outs c =
    let s = c.args.own.now.settings in
    let me = c.args.own.now.me.0 in
    let never = never_begun s me c.args.tick c.args.what (unbegun c) (not_begun_clean c) in
    subst (λ w. c.args.outs.now ≡ newest_outs (with_read s me [] c.args.tick w)) (sym never)
    (c.requires ∙ sym (idle_outs s me c.args.tick))
