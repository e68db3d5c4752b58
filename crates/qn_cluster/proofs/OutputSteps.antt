-- The packets among the outputs of an entry, one by one.
use Rattle.std.proofs.Common.{◌≡◌, ℕ, suc, zero, ◌+◌, ◌<◌, List, [], ◌∷◌, ◌++◌, length, Some, None, refl, sym, ◌∙◌, ap, arith, take, get_or, append_assoc}
use Rattle.std.specs.Prelude.{Option, false, is_some, option_to_list, true}
use Rattle.std.proofs.lemmas.List.{append-nil, take_more}
use Rattle.qn_model.specs.declared.outputs.Out.{Out}
use Rattle.qn_model.specs.declared.outputs.Out.TheVariants as out
use Rattle.qn_model.specs.declared.packets.Sent.{Sent}
use Rattle.qn_model.specs.Moments.{packets_of}
use Rattle.qn_cluster.specs.Outputs.{packet_in}

pub packets_of-cons : (output : Out) (outs : List Out) → packets_of (output ∷ outs) ≡ option_to_list (packet_in output) ++ packets_of outs
packets_of-cons out.Stop outs = refl
packets_of-cons out.Start outs = refl
packets_of-cons out.Feed outs = refl
packets_of-cons (out.Send to packet) outs = refl
packets_of-cons (out.Disk op) outs = refl
packets_of-cons out.Disarm outs = refl
packets_of-cons (out.Halt kind) outs = refl

pub packets_of-append : (front back : List Out) → packets_of (front ++ back) ≡ packets_of front ++ packets_of back
packets_of-append [] back = refl
packets_of-append (output ∷ front) back =
    packets_of-cons output (front ++ back)
    ∙ (ap (λ more. option_to_list (packet_in output) ++ more) (packets_of-append front back)
    ∙ (sym (append_assoc (option_to_list (packet_in output)) (packets_of front) (packets_of back))
    ∙ ap (λ all. all ++ packets_of back) (sym (packets_of-cons output front))))

pub packets_of-take : (outs : List Out) (place : ℕ) (d : Out) → place < length outs
    → packets_of (take (place + 1) outs) ≡ packets_of (take place outs) ++ option_to_list (packet_in (get_or outs place d))
packets_of-take outs place d within =
    ap packets_of (take_more outs place d within)
    ∙ (packets_of-append (take place outs) (get_or outs place d ∷ [])
    ∙ ap (λ more. packets_of (take place outs) ++ more) (packets_of-cons (get_or outs place d) [] ∙ append-nil _))

no_front : (front : Option Sent) (back : List Sent) → option_to_list front ++ back ≡ [] → (front ≡ None) × (back ≡ [])
no_front None back e = (refl, e)
no_front (Some sent) back e = absurd (cc)

-- where nothing is sent no output sends
pub none_sends : (outs : List Out) (place : ℕ) (d : Out) → place < length outs → packets_of outs ≡ [] → packet_in (get_or outs place d) ≡ None
none_sends [] place d within none = absurd (omega arith)
none_sends (first ∷ outs) zero d within none = (no_front (packet_in first) (packets_of outs) (sym (packets_of-cons first outs) ∙ none)).0
none_sends (first ∷ outs) (suc place) d within none =
    none_sends outs place d (omega arith) (no_front (packet_in first) (packets_of outs) (sym (packets_of-cons first outs) ∙ none)).1

-- one output more
pub sends_more : (old before new : List Sent) (outs : List Out) (place : ℕ) (d : Out) → place < length outs
    → before ≡ old ++ packets_of (take place outs) → new ≡ before ++ option_to_list (packet_in (get_or outs place d))
    → new ≡ old ++ packets_of (take (place + 1) outs)
sends_more old before new outs place d within so_far one =
    one
    ∙ (ap (λ items. items ++ option_to_list (packet_in (get_or outs place d))) so_far
    ∙ (append_assoc old (packets_of (take place outs)) (option_to_list (packet_in (get_or outs place d)))
    ∙ ap (λ more. old ++ more) (sym (packets_of-take outs place d within))))

-- one output more that sends nothing
pub none_more : (outs : List Out) (place : ℕ) (d : Out) (sent : Option Sent) → place < length outs → packets_of (take place outs) ≡ []
    → sent ≡ packet_in (get_or outs place d) → is_some sent ≡ false → packets_of (take (place + 1) outs) ≡ []
none_more outs place d None within so_far is silent =
    packets_of-take outs place d within
    ∙ (ap (λ front. front ++ option_to_list (packet_in (get_or outs place d))) so_far ∙ ap option_to_list (sym is))
none_more outs place d (Some sent) within so_far is silent = absurd (cc)

-- an output that sends
pub some_sends : (outs : List Out) (place : ℕ) (d : Out) (sent : Option Sent) → place < length outs
    → sent ≡ packet_in (get_or outs place d) → is_some sent ≡ true → packets_of outs ≡ [] → ⊥
some_sends outs place d None within is loud none = cc
some_sends outs place d (Some sent) within is loud none = let e : Some sent ≡ None = is ∙ none_sends outs place d within none in cc
