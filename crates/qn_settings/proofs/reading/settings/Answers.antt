use Rattle.std.proofs.Common.{◌≤◌, Err, sym, ap, subst, ◌∙◌}
use Rattle.std.specs.Prelude.{All}
use Rattle.std.proofs.lemmas.Result.{err_from_is_err_and}
use Rattle.qn_settings.specs.Answer.{filled}
use Rattle.qn_settings.specs.Entries.{entries_of}
use Rattle.qn_settings.proofs.Answering.{fault_exactly, good_answer, node_first, ok_exactly, settings_are, valid_when, value_first, vote_first}
use Rattle.qn_settings.proofs.Validity.{votes_fit_all}
use Rattle.qn_settings.proofs.reading.settings.Goals as goal

pub fill-settings-requires-clause-votes : goal.fill-settings-requires-clause-votes
fill-settings-requires-clause-votes c =
    subst (All (λ n. n.votes ≤ 65535)) (sym c.in_ok-nodes.ensures.1) (votes_fit_all (entries_of c.args.tree.now))

pub returns-in-Some : goal.returns-in-Some
returns-in-Some c =
    let is = value_first c.args.tree.now c.in-Some.fault (sym c.value_fault.ensures ∙ c.in-Some.is)
    in record {
      ok = ok_exactly c.args.tree.now _ is;
      settings = settings_are c.args.tree.now _ is;
      valid = valid_when c.args.tree.now _ is;
      fault = fault_exactly c.args.tree.now _ is;
      answer = is;
    }

pub returns-in_err-nodes : goal.returns-in_err-nodes
returns-in_err-nodes c =
    let p = err_from_is_err_and c.from_residual.result c.from_residual.ensures.1
    in let is = p.1 ∙ ap (λ fault. Err fault) p.2 ∙ node_first c.args.tree.now c.in_err-nodes.field-0.0 (sym c.value_fault.ensures ∙ c.in_default.is) c.in_err-nodes.ensures
    in record {
      ok = ok_exactly c.args.tree.now _ is;
      settings = settings_are c.args.tree.now _ is;
      valid = valid_when c.args.tree.now _ is;
      fault = fault_exactly c.args.tree.now _ is;
      answer = is;
    }

pub returns-in-Some-vote_fault : goal.returns-in-Some-vote_fault
returns-in-Some-vote_fault c =
    let whole = c.fill-settings.ensures ∙ ap (λ nodes. filled nodes (entries_of c.args.tree.now)) c.in_ok-nodes.ensures.1
    in let is = vote_first c.args.tree.now c.in-Some-vote_fault.fault c.fill-settings.result (sym c.value_fault.ensures ∙ c.in_default.is) c.in_ok-nodes.ensures.0 whole (sym c.vote_fault.ensures ∙ c.in-Some-vote_fault.is)
    in record {
      ok = ok_exactly c.args.tree.now _ is;
      settings = settings_are c.args.tree.now _ is;
      valid = valid_when c.args.tree.now _ is;
      fault = fault_exactly c.args.tree.now _ is;
      answer = is;
    }

pub returns-in-None : goal.returns-in-None
returns-in-None c =
    let whole = c.fill-settings.ensures ∙ ap (λ nodes. filled nodes (entries_of c.args.tree.now)) c.in_ok-nodes.ensures.1
    in let is = good_answer c.args.tree.now c.fill-settings.result (sym c.value_fault.ensures ∙ c.in_default.is) c.in_ok-nodes.ensures.0 whole (sym c.vote_fault.ensures ∙ c.in-None.is)
    in record {
      ok = ok_exactly c.args.tree.now _ is;
      settings = settings_are c.args.tree.now _ is;
      valid = valid_when c.args.tree.now _ is;
      fault = fault_exactly c.args.tree.now _ is;
      answer = is;
    }
