-- A view maker that names, by the list of its calls, newest first, while its own node says nothing of itself. This project's profile.
use Rattle.std.specs.Prelude.{◌≡◌, ℕ, List, [], ◌∷◌}
use Rattle.qn_base.specs.declared.ids.Standing.{Standing}
use Rattle.qn_model.specs.declared.configuration.Settings.{Settings}
use Rattle.qn_member.specs.Announcing.{is_hello_due, view_to_announce}
use Rattle.qn_member.specs.Maker.{first_maker, view_at}
use Rattle.qn_member.specs.MakerCalls.{Announce, Due, Hello, Look, MakerCall, PlainHello, after_calls}
use Rattle.qn_member.specs.Naming.{NamingMaker, after_named_announce, after_named_hello, after_named_plain_hello, after_standing, first_naming}
use Rattle.qn_member.specs.NamingViews.{after_look, after_naming_hello_due, answer_at, is_naming_hello_due, view_announced}

pub data SilentCall : Type 0 where
  Called : MakerCall → SilentCall  -- a call that a view maker without names has too
  Says : ℕ → Standing → SilentCall  -- a rank says this of itself

abbrev pub after_naming_call : MakerCall → NamingMaker → NamingMaker
after_naming_call (Hello tick from said) m = after_named_hello tick from said m
after_naming_call (PlainHello tick from) m = after_named_plain_hello tick from m
after_naming_call (Announce from view) m = after_named_announce from view m
after_naming_call (Look tick) m = after_look tick m
after_naming_call (Due tick) m = after_naming_hello_due tick m

abbrev pub after_silent_call : SilentCall → NamingMaker → NamingMaker
after_silent_call (Called made) m = after_naming_call made m
after_silent_call (Says from standing) m = after_standing from standing m

abbrev pub after_silent_calls : List SilentCall → NamingMaker → NamingMaker
after_silent_calls [] first = first
after_silent_calls (made ∷ earlier) first = after_silent_call made (after_silent_calls earlier first)

-- the same calls without what the others say of themselves
abbrev pub plain_calls : List SilentCall → List MakerCall
plain_calls [] = []
plain_calls (Called made ∷ earlier) = made ∷ plain_calls earlier
plain_calls (Says from standing ∷ earlier) = plain_calls earlier

-- A view maker is one without names: it knows the same, and answers the same to each call.
pub record IsPlain (s : Settings) (me loop_ms : ℕ) (calls : List SilentCall) (m : NamingMaker) : Type 0 where
  pub knows : m.maker ≡ after_calls (plain_calls calls) (first_maker s me loop_ms)
  pub looks : (tick : ℕ) → answer_at tick m ≡ view_at tick m.maker
  pub due : (tick : ℕ) → is_naming_hello_due tick m ≡ is_hello_due tick m.maker
  pub announces : view_announced m ≡ view_to_announce m.maker

abbrev pub silent_maker : Settings → ℕ → ℕ → List SilentCall → NamingMaker
silent_maker s me loop_ms calls = after_silent_calls calls (first_naming s me loop_ms)
