-- Where names and numbers meet: documents 01's and 02's number of each refusal, and answers in the model's words.
use Rattle.std.specs.Prelude.{ℕ}
use Rattle.std.specs.Prelude as std
use Rattle.std.specs.Prelude.{Ok, Err}
use Rattle.model.specs.Refusals.{Result, refused, done}
use Rattle.refusals.specs.declared.Refusal.{Refusal}
use Rattle.refusals.specs.declared.Refusal.TheVariants.{Head, Row, Path, TableFull, Conflict, Repeated, UnknownUser, NotRecord, TooManyFields, TooLong, NotRequest, WrongLogin, HasSession, NoSession, NoRoom, NoRight, QuotaUsed, LoginsUsed}

abbrev pub number_of : Refusal → ℕ
number_of Head = 1
number_of Row = 2
number_of Path = 3
number_of TableFull = 4
number_of Conflict = 5
number_of Repeated = 6
number_of UnknownUser = 7
number_of NotRecord = 8
number_of TooManyFields = 9
number_of TooLong = 10
number_of NotRequest = 11
number_of WrongLogin = 12
number_of HasSession = 13
number_of NoSession = 14
number_of NoRoom = 15
number_of NoRight = 16
number_of QuotaUsed = 17
number_of LoginsUsed = 18

-- ── Answers in the model's words ──
-- what is done, or the refusal
abbrev pub answer_by : {A E F : Type 0} → (E → F) → std.Result A E → Result F A
answer_by f (Ok a) = done a
answer_by f (Err e) = refused (f e)

-- each refusal by its number
abbrev pub numbered : {A : Type 0} → std.Result A Refusal → Result ℕ A
numbered r = answer_by number_of r

-- whether it is done, or the refusal
abbrev pub bare : {E A : Type 0} → Result E A → Result E (Unit {0})
bare (refused e) = refused e
bare (done a) = done tt
