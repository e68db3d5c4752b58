use Rattle.std.proofs.Common.{◌≡◌, Some, sym, ap, subst, ◌∙◌, get_or}
use Rattle.std.proofs.lemmas.Option.{slice_get-get_or}
use Rattle.qn_base.specs.Plans.{question}
use Rattle.qn_model.specs.declared.outputs.Out.TheVariants as out
use Rattle.qn_live.specs.declared.place.Place.{Place}
use Rattle.qn_live.specs.declared.place.Place.TheVariants as place
use Rattle.qn_live.specs.Machine.{polling, HasMore, acting, left_at, parting, saying, state_of}
use Rattle.qn_live.specs.Greetings.{farewells, to_send}
use Rattle.qn_live.proofs.Joining.{acting_more, parting_more, saying_more}
use Rattle.qn_live.proofs.run.NodeRun.asks.Goals as goal

pub returns-in-Act-clause-asked : goal.returns-in-Act-clause-asked
returns-in-Act-clause-asked c = λ plan h.
    let run = c.args.self.now in
    let at = c.in-Act.at in
    let P : Place → Type 0 = λ p. HasMore run.settings run.me.0 run.outs p in
    let more : HasMore run.settings run.me.0 run.outs (place.Act at) = subst P c.in-Act.is h.more in
    let found = slice_get-get_or run.outs at out.Stop more.0 in
    let is : plan ≡ acting run (state_of run h.log) at = h.is_left ∙ ap (λ p. left_at run h.log p) c.in-Act.is in
    ap question (is ∙ acting_more run (state_of run h.log) at (get_or run.outs at out.Stop) found)
    ∙ ap Some (sym (c.ask_output.ensures.asked h.log (get_or run.outs at out.Stop) h.stands found))

pub returns-in-Poll-clause-asked : goal.returns-in-Poll-clause-asked
returns-in-Poll-clause-asked c = λ plan h.
    let run = c.args.self.now in
    let is : plan ≡ polling run h.log c.in-Poll.poll c.in-Poll.greets = h.is_left ∙ ap (λ p. left_at run h.log p) c.in-Poll.is in
    ap question is ∙ ap Some (sym c.ask_poll.ensures.asked)

pub returns-in-Greet-clause-asked : goal.returns-in-Greet-clause-asked
returns-in-Greet-clause-asked c = λ plan h.
    let run = c.args.self.now in
    let said = c.in-Greet.greeting in
    let to = c.in-Greet.to in
    let P : Place → Type 0 = λ p. HasMore run.settings run.me.0 run.outs p in
    let more : HasMore run.settings run.me.0 run.outs (place.Greet said to) = subst P c.in-Greet.is h.more in
    let is : plan ≡ saying run h.log (to_send run.settings run.me.0 run.member said to) =
    h.is_left ∙ ap (λ p. left_at run h.log p) c.in-Greet.is in
    ap question (is ∙ saying_more run h.log said to more.0 more.1) ∙ ap Some (sym c.ask_greeting.ensures.asked)

pub returns-in-Part-clause-asked : goal.returns-in-Part-clause-asked
returns-in-Part-clause-asked c = λ plan h.
    let run = c.args.self.now in
    let view = c.in-Part.view in
    let to = c.in-Part.to in
    let P : Place → Type 0 = λ p. HasMore run.settings run.me.0 run.outs p in
    let more : HasMore run.settings run.me.0 run.outs (place.Part view to) = subst P c.in-Part.is h.more in
    let is : plan ≡ parting run h.log (farewells run.settings run.me.0 view to) =
    h.is_left ∙ ap (λ p. left_at run h.log p) c.in-Part.is in
    ap question (is ∙ parting_more run h.log view to more.0 more.1) ∙ ap Some (sym c.ask_greeting-in-Part.ensures.asked)
