-- Steps of which each goes on with the value of the one before it, or stops at the first fault.
use Rattle.std.proofs.Common.{◌≡◌, Result, Ok, Err, refl}
use Rattle.qn_model.specs.declared.line_fault.LineFault.{LineFault}
use Rattle.qn_model.specs.Lines.{◌>>=◌}

pub bind-same : {A B : Type 0} (r : Result A LineFault) (f g : A → Result B LineFault) → ((x : A) → f x ≡ g x) → (r >>= f) ≡ (r >>= g)
bind-same (Ok x) f g same = same x
bind-same (Err fault) f g same = refl

pub bind-ok : {A B C : Type 0} (r : Result A LineFault) (f : A → B) (g : B → Result C LineFault) → ((r >>= (λ x. Ok (f x))) >>= g) ≡ (r >>= (λ x. g (f x)))
bind-ok (Ok x) f g = refl
bind-ok (Err fault) f g = refl
