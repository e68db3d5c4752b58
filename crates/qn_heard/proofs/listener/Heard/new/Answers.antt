use Rattle.std.proofs.Common.{refl, sym, ◌∙◌, ap, true, not}
use Rattle.qn_base.specs.lemmas.Masks.{empty_has_none}
use Rattle.qn_heard.specs.Heard.{due_after}
use Rattle.qn_heard.proofs.Steps.{install-none, told-none, moment-none}
use Rattle.qn_heard.proofs.listener.Heard.new.Goals as goal

pub returns-clause-stands : goal.returns-clause-stands
returns-clause-stands c = λ s log claims loop no_view. record {
  hears = record {
    own = refl;
    incarnations = claims;
    loops = loop;
    views = no_view;
    installed = install-none log no_view;
    frees = λ rank below. empty_has_none rank ∙ sym (told-none (λ tell. not tell.holds) rank log no_view);
    tolds = λ rank below. empty_has_none rank ∙ sym (told-none (λ tell. true) rank log no_view);
  };
  next = λ up. ap (due_after c.args.loop_ms) (sym (moment-none s log no_view));
}
