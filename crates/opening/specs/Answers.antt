-- Document 01's numbers for each answer.
use Rattle.std.specs.Prelude.{◌≡◌}
use Rattle.std.specs.Prelude as std
use Rattle.std.specs.Prelude.{Ok, Err}
use Rattle.model.specs.Base.{Bytes}
use Rattle.model.specs.Refusals.{Result, refused, done}
use Rattle.model.specs.Opening.{State, Texts, Fault, fault, opened, after_opening}
use Rattle.opening.specs.Memory.{Arrays, state_of, Agree, encode_opened}
use Rattle.refusals.specs.Numbers.{number_of, answer_by, bare}
use Rattle.opening.specs.declared.answer.Fault as code

unfoldable pub texts_of : Bytes → Bytes → Bytes → Bytes → Texts
texts_of u e p r = record { users_text = u; environments_text = e; policy_text = p; record_text = r }

-- a refusal's number, text and line
abbrev pub fault_of : code.Fault → Fault
fault_of f = fault (number_of f.refusal) f.text f.line

-- the refusal of an opening, or what is there once it is done
abbrev pub opening_result : {A : Type 0} → std.Result (Unit {0}) code.Fault → A → Result Fault A
opening_result (Ok u) a = done a
opening_result (Err f) a = refused (fault_of f)

-- the arrays after an opening: kept by a refusal, else those of the new state
abbrev pub arrays_after : Arrays → Result Fault State → Arrays
arrays_after before (refused f) = before
arrays_after before (done s) = encode_opened s

-- four texts opened: what is answered, what the arrays mean afterwards, every byte of them, and where it is done that the masks agree with the policy
pub record Opens (before : Arrays) (texts : Texts) (answer : std.Result (Unit {0}) code.Fault) (after : Arrays) : Type 0 where
  pub answered : answer_by fault_of answer ≡ bare (opened texts)
  pub state : state_of after ≡ after_opening (state_of before) texts
  pub bytes : after ≡ arrays_after before (opened texts)
  pub agrees : answer ≡ Ok tt → Agree after
