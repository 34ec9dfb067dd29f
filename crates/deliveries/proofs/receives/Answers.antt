use mathlib.Core.Path.{◌≡◌, sym, ap, ◌∙◌}
use mathlib.Core.Bool.{false, and-true, and-false}
use borrow.Author.Rules.{rules}
use borrow.Author.Tests.{ne_eqb}
use Rattle.model.specs.Opening.{LoginState}
use Rattle.masks.specs.Bits.{bit_at}
use Rattle.sessions.specs.Logins.{state_of}
use Rattle.deliveries.specs.Receivers.{receives}
use Rattle.deliveries.proofs.receives.Goals as goal

-- Not marked: not told. Behind the sender, whom Rattle answers for, the session decides.

pub returns-then-not-has_bit : goal.returns-then-not-has_bit
unfolding receives
returns-then-not-has_bit c =
    let a = c.args in
    let not-marked : bit_at a.mask a.j ≡ false = sym c.has_bit.ensures ∙ c.if-not-has_bit.true in
    rw (not-marked, and-false)

pub returns : goal.returns
unfolding receives state_of
returns c =
    let a = c.args in
    let marked = sym c.has_bit.ensures ∙ c.if-not-has_bit.false in
    let is_open = ap (λ (s : LoginState). s.is_open) c.state_at.ensures in
    rw (marked, ne_eqb a.j a.i (search rules), and-true, and-true) is_open
