-- Document 01, "One afternoon in the hall": what the program `serve` prints, from the four files and its input.
use Rattle.std.specs.Prelude.{ℕ, List, [], ◌∷◌, ◌++◌, map, take, replicate}
use Rattle.std.specs.Prelude.{Option, None, Some}
use Rattle.model.specs.Base.{Bytes, text, joined, decimal}
use Rattle.model.specs.Limits.{list_room, max_copy}
use Rattle.model.specs.Fields.{Field}
use Rattle.model.specs.Refusals.{Result, refused, done}
use Rattle.model.specs.Table.{Line, ended, broken, lines}
use Rattle.model.specs.Opening.{State, Texts, Fault, opened}
use Rattle.model.specs.Serving.{table_line, Answer, refusal, session, length_is, accepted, line, Outcome}
use Rattle.model.specs.Runs.{Event, events, push_in, delivery_line}
use Rattle.model.specs.Runs

-- "the deliveries for PUSH"
unfoldable pub print_deliveries : Outcome → Option Field → Bytes
print_deliveries o None = []
print_deliveries o (Some f) = joined (map (λ m. delivery_line f.path f.value m ++ text "\n") (take o.told o.list))

-- "`OK;session` for a login, `OK;length` and the copy for GET, `OK` .. for PUSH, `NO;number` for a refusal"; "prints `OK`" for LOGOUT (02, 1)
unfoldable pub print_answer : Bytes → Answer → Bytes
print_answer b (refusal e) = table_line (text "NO" ∷ decimal e ∷ [])
print_answer b (session n) = table_line (text "OK" ∷ decimal n ∷ [])
print_answer b (length_is n) = table_line (text "OK" ∷ decimal n ∷ []) ++ take n b
print_answer b accepted = table_line (text "OK" ∷ [])

unfoldable pub printed : Event → Bytes
printed e = print_answer e.result.buffer e.result.answer ++ print_deliveries e.result (push_in e)

-- "a refused opening prints `NO;number;text;line` and ends"
unfoldable pub print_fault : Fault → Bytes
print_fault f = table_line (text "NO" ∷ decimal f.number ∷ decimal f.in_text ∷ decimal f.line ∷ [])

-- "the last with or without its 0A"
unfoldable pub line_bytes : Line → Bytes
line_bytes (ended t) = t
line_bytes (broken t) = t

unfoldable pub print_run : Bytes → List ℕ → Bytes → Result Fault State → Bytes
print_run b l input (refused f) = print_fault f
print_run b l input (done s) = joined (map printed (events s (map (λ x. line (line_bytes x) b l) (lines input))))

-- with this buffer and this list each time
unfoldable pub serve_with : Bytes → List ℕ → Texts → Bytes → Bytes
serve_with b l t input = print_run b l input (opened t)

-- "the buffer and list lent are always long enough"
unfoldable pub serve : Texts → Bytes → Bytes
serve t input = serve_with (replicate max_copy 0) (replicate list_room 0) t input

unfoldable pub Opened : Unit {0}
unfolding Runs.Opened print_deliveries print_answer printed print_fault line_bytes print_run serve_with serve
Opened = tt
