use Rattle.std.proofs.Common.{◌≡◌, Bool, true, false, List, ℕ, refl, sym, ap, ◌∙◌}
use Rattle.std.specs.Str.{bytes_eq}
use Rattle.std.proofs.lemmas.Slice.Eq.{bytes_eq-Decides}
use Rattle.qn_sched.specs.Head.{dashes}
use Rattle.qn_playback.proofs.Taken.{took_end}
use Rattle.qn_playback.proofs.TextLines.{text_rest-dashes}
use Rattle.qn_playback.proofs.part_text.PartText.take_end.Goals as goal

-- the test on what was compared is the test on the next line and `----`
tested : (read compared rest : List ℕ) (answer : Bool) → read ≡ rest → compared ≡ dashes → answer ≡ bytes_eq read compared → bytes_eq rest dashes ≡ answer
tested read compared rest answer is same test = sym (test ∙ ap (λ r. bytes_eq r compared) is ∙ ap (bytes_eq rest) same)

pub returns-then-eq : goal.returns-then-eq
returns-then-eq c =
    let is = tested c.rest.result.now c.as_slice.result.now c.args.self.now.rest true c.rest.ensures c.as_slice.ensures c.if-eq.ensures in
    record { same = refl; dashes_read = (bytes_eq-Decides c.args.self.now.rest dashes).0 is; ended = refl; rest = λ ending more. text_rest-dashes c.args.self.now ending more c.requires.inside is }

pub returns : goal.returns
returns c =
    took_end c.progress.result c.args.self.now c.end_line.new.self c.requires
    (tested c.rest.result.now c.as_slice.result.now c.args.self.now.rest false c.rest.ensures c.as_slice.ensures c.if-eq.ensures)
    c.in-Ok.ensures c.progress.ensures
