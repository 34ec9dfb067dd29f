-- What is printed, how long it is, and what a reply may say of a buffer.
use Rattle.std.specs.Prelude.{ℕ, ◌+◌, ◌*◌, ◌≤◌, ◌≡◌, [], ◌++◌}
use Rattle.model.specs.Base.{Bytes, text, decimal}
use Rattle.model.specs.Limits.{max_copy}
use Rattle.model.specs.Opening.{State}
use Rattle.model.specs.Serving.{Outcome}
use Rattle.model.specs.Program.{print_fault, printed}
use Rattle.rows.specs.Rows.{Wrote}
use Rattle.deliveries.specs.Receivers.{deliveries_text}
use Rattle.opening.specs.Memory.{Arrays, state_of, masks_of, Agree}
use Rattle.std.specs.Prelude as std
use Rattle.std.specs.Prelude.{Ok, Err}
use Rattle.opening.specs.declared.answer.Fault as code
use Rattle.opening.specs.Answers.{fault_of}
use Rattle.server.specs.declared.answer.Reply.TheVariants as reply
use Rattle.server.specs.Masked.{Effect, effect_by_masks, effect_by_policy}
use Rattle.server.specs.Replies.{Given, Outputs, InMemory, act, event_of}

-- ── Lengths, in bytes ──
-- `OK;` and `NO;`
abbrev pub mark_length : ℕ
mark_length = 3

-- the digits of a number of 64 bits
abbrev pub most_digits : ℕ
most_digits = 20

-- a mark, a number and 0A
abbrev pub most_numbered : ℕ
most_numbered = mark_length + most_digits + 1

-- a mark, and three numbers, each with a `;` or 0A behind it
abbrev pub most_fault : ℕ
most_fault = mark_length + 3 * (most_digits + 1)

-- for a line: the answer, a copy behind it, the deliveries
abbrev pub most_printed : ℕ
most_printed = most_numbered + max_copy + deliveries_text

-- ── Texts ──
-- a mark, a number and 0A
abbrev pub numbered : Bytes → ℕ → Bytes
numbered mark n = mark ++ (decimal n ++ text "\n")

-- "a refused opening prints `NO;number;text;line`"
abbrev pub opening_text : std.Result (Unit {0}) code.Fault → Bytes
opening_text (Ok u) = []
opening_text (Err f) = print_fault (fault_of f)

-- a length that was answered lies in the buffer
abbrev pub Inside : Given → ℕ → Type 0
Inside (Err e) room = Unit {0}
Inside (Ok (reply.Session n)) room = Unit {0}
Inside (Ok (reply.Length n)) room = n ≤ room
Inside (Ok (reply.Accepted k at)) room = Unit {0}

-- the state, the buffer and the list that an act leaves
abbrev pub Left : Outcome → State → Outputs → Type 0
Left o s left = (s ≡ o.state) × (left.buffer ≡ o.buffer) × (left.list ≡ o.list)

-- a line has its effect: what it leaves, in meaning and in memory, and what is printed for it, n bytes, written over the start of `over` as far as there is room
pub record Responds (w : Effect) (text : Bytes) (before : Arrays) (given : Outputs) (after : Arrays) (left : Outputs) (over : Bytes) (n : ℕ) (out : Bytes) : Type 0 where
  pub leaves : Left w.outcome (state_of after) left
  pub memory : InMemory w before after
  pub wrote : Wrote 0 (printed (event_of (state_of before) (act text given) w.outcome)) over n out
  pub short : n ≤ most_printed

-- by the masks, whatever the arrays hold
abbrev pub RespondsByMasks : Arrays → Bytes → Outputs → Arrays → Outputs → Bytes → ℕ → Bytes → Type 0
RespondsByMasks before text given after left over n out =
    Responds (effect_by_masks (state_of before) (masks_of before) (act text given)) text before given after left over n out

-- where the masks agree with the policy as documents 01 and 02 say, and they agree again
abbrev pub RespondsByPolicy : Arrays → Bytes → Outputs → Arrays → Outputs → Bytes → ℕ → Bytes → Type 0
RespondsByPolicy before text given after left over n out =
    Agree before → Responds (effect_by_policy (state_of before) (act text given)) text before given after left over n out × Agree after
