use Rattle.std.proofs.Common.{◌∙◌, Bool, List, ap, subst}
use Rattle.qn_model.specs.declared.entries.What.{What}
use Rattle.qn_notice.specs.declared.kinds.Event.{Event}
use Rattle.qn_notice.specs.Observing.{takes}
use Rattle.qn_told.specs.Telling.{IsTold, Told, call_told}
use Rattle.qn_told.proofs.teller.Teller.tell.Goals as goal

pub returns : goal.returns
returns g c =
    let around = c.args.around.now in
    let run = c.args.run.now in
    let is_turn = takes c.args.asked c.args.given run in
    let inside : Told = record { news = c.self.inside.news; said = g.S.Says.said c.self.inside.says } in
    let observing : Told = record inside { news = record inside.news { observer = c.made-events.new.self } } in
    subst (λ (before : Told). IsTold around c.args.asked c.args.given run before c.tell_call.new.self) c.self.view_is (record {
      observer = c.made-events.new.self;
      events = c.made-events.result.items;
      are = record {
        told = c.made-events.ensures.told;
        goes_on = c.made-events.ensures.goes_on;
        answered = c.made-events.ensures.answered;
        stays = c.made-events.ensures.stays;
      };
      is = c.tell_call.ensures
          ∙ ap (λ (at_turn : Bool). call_told around at_turn c.entry.result c.as_slice.result.now observing) c.takes-is_turn.ensures
          ∙ ap (λ (entry : What). call_told around is_turn entry c.as_slice.result.now observing) c.entry.ensures
          ∙ ap (λ (events : List Event). call_told around is_turn run.entry events observing) c.as_slice.ensures.value;
    })
