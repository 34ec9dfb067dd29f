-- Numbers say what the answer says that they were taken from.
use Prim.Native.Nat.{ℕ}
use mathlib.Core.Path.{◌≡◌, refl, ap, ◌∙◌}
use mathlib.Core.List.{List}
use Rattle.model.specs.Base.{Bytes}
use Rattle.model.specs.Refusals.{Result, refused, done}
use Rattle.model.specs.Opening.{State, Fault, Texts, fault, opened}
use Rattle.std.specs.Prelude as std
use Rattle.std.specs.Prelude.{Ok, Err}
use Rattle.refusals.specs.Numbers as refusals
use Rattle.refusals.specs.Numbers.{answer_by, bare}
use Rattle.opening.specs.declared.answer.Fault as code
use Rattle.opening.specs.Answers.{fault_of, Opens}
use Rattle.model.specs.Serving.{Outcome}
use Rattle.opening.specs.Memory.{Arrays}
use Rattle.server.specs.Masked.{Effect}
use Rattle.server.specs.Replies.{Given, answer_in, told_in, outcome_in, Outputs, Leaves}
use Rattle.exports.proofs.Accepted.{zero-accepted}
use Rattle.exports.specs.Numbers.{fault_number, fault_text, fault_line, kind_of, number_of, OpensAs, Tells, ServesAs}

-- a reply's kind and number, where the reply with what it left is an outcome
pub reply-tells : (r : Given) (s : State) (b : Bytes) (l : List ℕ) {o : Outcome} {kind number : ℕ} → outcome_in r s b l ≡ o
    → kind ≡ kind_of (answer_in r) → number ≡ number_of (answer_in r) (told_in r) → Tells o kind number s b l
unfolding outcome_in
reply-tells r s b l is k n = rw (← is) (record { kind_is = k; number_is = n; state_is = refl; buffer_is = refl; list_is = refl })

-- a reply to a line with this effect
pub serves-as : (r : Given) {w : Effect} {text : Bytes} {before after : Arrays} {left : Outputs} {kind number : ℕ} → Leaves w text before r after left
    → kind ≡ kind_of (answer_in r) → number ≡ number_of (answer_in r) (told_in r) → ServesAs w before kind number after left.buffer left.list
serves-as r l k n = record { tells = reply-tells r _ _ _ l.is k n; memory = l.memory }

-- an opening that was accepted, and one that was refused
pub done-as : (o : Result Fault State) → done tt ≡ bare o → (0 ≡ fault_number o) × (0 ≡ fault_text o) × (0 ≡ fault_line o)
unfolding fault_number fault_text fault_line
done-as (refused f) e = cc
done-as (done s) e = (refl, refl, refl)

pub refused_as : (o : Result Fault State) (f : code.Fault) → refused (fault_of f) ≡ bare o
    → (refusals.number_of f.refusal ≡ fault_number o) × (f.text ≡ fault_text o) × (f.line ≡ fault_line o)
unfolding fault_number fault_text fault_line fault
refused_as (refused g) f e = (cc, cc, cc)
refused_as (done s) f e = cc

-- the opening was accepted, and the answer says so
answered : (o : Result Fault State) (answer : std.Result (Unit {0}) code.Fault) → answer_by fault_of answer ≡ bare o → (s : State) × (o ≡ done s) → answer ≡ Ok tt
answered o (Ok u) told accepted = refl
answered o (Err f) told accepted = let no : refused (fault_of f) ≡ done tt = told ∙ ap bare accepted.1 in cc

-- either, as numbers
pub opens_as : {before after : Arrays} {texts : Texts} {answer : std.Result (Unit {0}) code.Fault} {r t l : ℕ} → Opens before texts answer after
    → (r ≡ fault_number (opened texts)) × (t ≡ fault_text (opened texts)) × (l ≡ fault_line (opened texts)) → OpensAs before texts r t l after
opens_as {texts = texts} {answer} o (n, t, l) = record {
  number = n;
  source = t;
  line = l;
  state = o.state;
  bytes = o.bytes;
  zero_done = zero-accepted texts n;
  agrees = λ z. o.agrees (answered (opened texts) answer o.answered (zero-accepted texts n z));
}
