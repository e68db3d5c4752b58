use Rattle.std.proofs.Common.{◌≡◌, ◌||◌, is_some, refl, sym, ap, subst, ◌∙◌, get_or}
use Rattle.std.proofs.lemmas.Option.{slice_get-get_or}
use Rattle.qn_base.specs.Plans.{◌>>=◌, left}
use Rattle.qn_io.specs.Receives.{received}
use Rattle.qn_model.specs.declared.outputs.Out.TheVariants as out
use Rattle.qn_live.specs.declared.place.Place.{Place}
use Rattle.qn_live.specs.declared.place.Place.TheVariants as place
use Rattle.std.proofs.Common.{Bool}
use Rattle.qn_live.specs.declared.decoded.Came.{Came}
use Rattle.qn_live.specs.declared.decoded.Decoded.TheVariants as decoded
use Rattle.qn_live.specs.Choosing.{choice_in, choice_where, heard_request}
use Rattle.qn_live.specs.Decoding.{came_in}
use Rattle.qn_live.specs.Machine.{HasMore, acting, clocking, left_at, next_of, parting, polling, receiving, saying, state_of, timing}
use Rattle.qn_live.specs.Greetings.{farewells, to_send}
use Rattle.qn_live.specs.Running.{later}
use Rattle.qn_live.specs.Words.{words_after}
use Rattle.qn_live.specs.declared.words.Words.{Words}
use Rattle.qn_live.specs.Runs.{timed}
use Rattle.qn_live.proofs.BytesDecoded.{act_decoded}
use Rattle.qn_live.proofs.Joining.{choice_by_poller, acting_more, asked_call, left_call, parting_more, saying_more, stands_too}
use Rattle.qn_live.proofs.run.NodeRun.answer.Goals as goal

pub returns-in-Receive-clause-runs : goal.returns-in-Receive-clause-runs
returns-in-Receive-clause-runs c = λ plan call h tells asked.
    let run = c.args.self.now in
    let is : plan ≡ receiving run h.log = h.is_left ∙ ap (λ p. left_at run h.log p) c.in-Receive.is in
    let got = received c.args.given.got c.args.room.now.packet in
    let came : c.came_in-came.result ≡ came_in got = c.came_in-came.ensures in
    let chosen : c.choose.result ≡ choice_where (is_some run.poller) run.me.0 got =
    c.choose.ensures got (ap (λ (x : Came). x.packet) came) (ap (λ (x : Came). x.reply) came)
    ∙ ap (λ (polls : Bool). choice_where polls run.me.0 got) c.is_some-polls.ensures in
    let heard : c.heard_request-self.result ≡ (heard_request got (state_of run h.log)).asked =
    c.heard_request-self.ensures ∙ ap (λ (x : Came). run.asked || x.is_request) came in
    let words : c.after-self.result ≡ (heard_request got (state_of run h.log)).words =
    c.after-self.ensures got (ap (λ (x : Came). x.word) came) ∙ ap (λ tick. words_after tick got run.words) h.stands.at in
    record {
      log = h.log;
      stands = h.stands;
      more = tt;
      is_left =
          ap (λ p. left p call) is
          ∙ ap
          (λ got. timed run.settings run.me.0 (choice_in run.me.0 (state_of run h.log).poller got, heard_request got (state_of run h.log)) >>= later (next_of run))
          tells.got
          ∙ ap
          (λ chosen. timed run.settings run.me.0 (chosen, heard_request got (state_of run h.log)) >>= later (next_of run))
          (sym (choice_by_poller run.poller run.me.0 got) ∙ sym chosen)
          ∙ ap
          (λ (asked : Bool). timed run.settings run.me.0 (c.choose.result, record (state_of run h.log) { asked = asked; words = (heard_request got (state_of run h.log)).words }) >>= later (next_of run))
          (sym heard)
          ∙ ap
          (λ (words : Words). timed run.settings run.me.0 (c.choose.result, record (state_of run h.log) { asked = c.heard_request-self.result; words = words }) >>= later (next_of run))
          (sym words);
    }

pub returns-in-Now-clause-runs : goal.returns-in-Now-clause-runs
returns-in-Now-clause-runs c = λ plan call h tells asked.
    let run = c.args.self.now in
    let choice = c.in-Now.choice in
    let is : plan ≡ timing run h.log choice = h.is_left ∙ ap (λ p. left_at run h.log p) c.in-Now.is in
    stands_too (ap (λ p. left p call) is ∙ ap (λ tick. clocking run h.log choice tick) tells.tick) (c.at_tick.ensures.runs h.log h.stands)

pub returns-in-Act-clause-runs : goal.returns-in-Act-clause-runs
returns-in-Act-clause-runs c = λ plan call h tells asked.
    let run = c.args.self.now in
    let at = c.in-Act.at in
    let P : Place → Type 0 = λ p. HasMore run.settings run.me.0 run.outs p in
    let more : HasMore run.settings run.me.0 run.outs (place.Act at) = subst P c.in-Act.is h.more in
    let found = slice_get-get_or run.outs at out.Stop more.0 in
    let is : plan ≡ acting run (state_of run h.log) at = h.is_left ∙ ap (λ p. left_at run h.log p) c.in-Act.is in
    let asks = is ∙ acting_more run (state_of run h.log) at (get_or run.outs at out.Stop) found in
    stands_too (left_call call asks)
    (c.performed.ensures.runs h.log (get_or run.outs at out.Stop) call h.stands more.2 found tells (asked_call asks asked))

pub returns-in-Poll-clause-runs : goal.returns-in-Poll-clause-runs
returns-in-Poll-clause-runs c = λ plan call h tells asked.
    let run = c.args.self.now in
    let is : plan ≡ polling run h.log c.in-Poll.poll c.in-Poll.greets = h.is_left ∙ ap (λ p. left_at run h.log p) c.in-Poll.is in
    stands_too (ap (λ p. left p call) is) (c.greet_or_finish.ensures.runs h.log h.stands)

pub returns-in-Greet-clause-runs : goal.returns-in-Greet-clause-runs
returns-in-Greet-clause-runs c = λ plan call h tells asked.
    let run = c.args.self.now in
    let said = c.in-Greet.greeting in
    let to = c.in-Greet.to in
    let P : Place → Type 0 = λ p. HasMore run.settings run.me.0 run.outs p in
    let more : HasMore run.settings run.me.0 run.outs (place.Greet said to) = subst P c.in-Greet.is h.more in
    let is : plan ≡ saying run h.log (to_send run.settings run.me.0 run.member said to) =
    h.is_left ∙ ap (λ p. left_at run h.log p) c.in-Greet.is in
    stands_too (left_call call (is ∙ saying_more run h.log said to more.0 more.1)) (c.greet.ensures.runs h.log h.stands)

pub returns-in-Part-clause-runs : goal.returns-in-Part-clause-runs
returns-in-Part-clause-runs c = λ plan call h tells asked.
    let run = c.args.self.now in
    let view = c.in-Part.view in
    let to = c.in-Part.to in
    let P : Place → Type 0 = λ p. HasMore run.settings run.me.0 run.outs p in
    let more : HasMore run.settings run.me.0 run.outs (place.Part view to) = subst P c.in-Part.is h.more in
    let is : plan ≡ parting run h.log (farewells run.settings run.me.0 view to) =
    h.is_left ∙ ap (λ p. left_at run h.log p) c.in-Part.is in
    stands_too (left_call call (is ∙ parting_more run h.log view to more.0 more.1)) (c.part.ensures.runs h.log h.stands)

pub returns-in-Now-clause-took : goal.returns-in-Now-clause-took
returns-in-Now-clause-took c = λ log stands looks rises. c.at_tick.ensures.took log stands rises

pub returns-in-Now-clause-back : goal.returns-in-Now-clause-back
returns-in-Now-clause-back c = λ looks falls. c.at_tick.ensures.back falls

pub returns-in-Receive-clause-decoded : goal.returns-in-Receive-clause-decoded
returns-in-Receive-clause-decoded c = rw c.in-Receive.is (ap (λ (x : Came). decoded.Came x) c.came_in-came.ensures)

pub returns-in-Act-clause-decoded : goal.returns-in-Act-clause-decoded
returns-in-Act-clause-decoded c =
    let run = c.args.self.now in
    let at = c.in-Act.at in
    let h = c.requires.under_way.1 in
    let P : Place → Type 0 = λ p. HasMore run.settings run.me.0 run.outs p in
    let more : HasMore run.settings run.me.0 run.outs (place.Act at) = subst P c.in-Act.is h.more in
    let found_out = get_or run.outs at out.Stop in
    let found = slice_get-get_or run.outs at out.Stop more.0 in
    rw c.in-Act.is (c.performed.ensures.decoded found_out found ∙ act_decoded run.outs at found_out c.args.given c.args.room.now found)

pub returns-in-Now-clause-decoded : goal.returns-in-Now-clause-decoded
returns-in-Now-clause-decoded c = rw c.in-Now.is refl

pub returns-in-Poll-clause-decoded : goal.returns-in-Poll-clause-decoded
returns-in-Poll-clause-decoded c = rw c.in-Poll.is refl

pub returns-in-Greet-clause-decoded : goal.returns-in-Greet-clause-decoded
returns-in-Greet-clause-decoded c = rw c.in-Greet.is refl

pub returns-in-Part-clause-decoded : goal.returns-in-Part-clause-decoded
returns-in-Part-clause-decoded c = rw c.in-Part.is refl

pub returns-in-Over-clause-decoded : goal.returns-in-Over-clause-decoded
returns-in-Over-clause-decoded c = rw c.in-Over.is refl
