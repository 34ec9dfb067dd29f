-- What is printed depends neither on what the buffer and the list held nor, where they are long enough, on their lengths.
use Prim.Native.Nat.{ℕ, ◌≤◌}
use mathlib.Core.Path.{◌≡◌, refl, ap, ap₂, ◌∙◌}
use Rattle.std.specs.Prelude.{Option, None, Some}
use mathlib.Core.List.{List, [], ◌∷◌, ◌++◌, map}
use lib.ListN.{length, replicate, length-replicate}
use native.Mathlib.Nat.{le_refl}
use native.Mathlib.Omega.{arith}
use borrow.Author.Tests.{le-ltb}
use Rattle.model.specs.Base.{Bytes, joined}
use Rattle.model.specs.Fields.{Field}
use Rattle.model.specs.Limits.{max_copy, list_room}
use Rattle.model.specs.Refusals.{Result, refused, done}
use Rattle.model.specs.Tables.{User, user_at}
use Rattle.model.specs.Opening.{State}
use Rattle.model.specs.Requests.{Request, login, in_session, get, push, logout, request_of}
use Rattle.model.specs.Serving.{index_in, copy_for, Change, sets_login, shows, stores, decide_show, decide_get, decide_push, room_for, decide, notified, shown, answer_of, Act, line, buffer_of, list_of, decide_line, decision, unchanged, conclude, outcome}
use Rattle.model.specs.Runs.{request_of_act, event_in, events, push_in}
use Rattle.model.specs.Program.{print_deliveries, print_answer, printed}
use Rattle.model.specs.Claims.{with_zeros, LongEnough, act_of}
use Rattle.model.proofs.Lists.{by_cases, bind-agree}
use Rattle.model.proofs.Decisions.{asking}
use Rattle.model.proofs.TwoRuns.{over-take}

-- ── Content: from one decision the same is printed ──
module _ (s : State) (b b₁ : Bytes) (l l₁ : List ℕ) where
  answer-alike : (x : Result ℕ Change) →
      print_answer (conclude s b l x).buffer (conclude s b l x).answer ≡ print_answer (conclude s b₁ l₁ x).buffer (conclude s b₁ l₁ x).answer
  unfolding conclude unchanged print_answer answer_of shown
  answer-alike (refused e) = refl
  answer-alike (done (sets_login i a)) = by_cases a.is_open (λ e. rw e) (λ e. rw e)
  answer-alike (done (shows c)) = rw (over-take c b, over-take c b₁)
  answer-alike (done (stores i a f)) = refl

  deliveries-alike : (x : Result ℕ Change) (p : Option Field) → print_deliveries (conclude s b l x) p ≡ print_deliveries (conclude s b₁ l₁ x) p
  unfolding print_deliveries
  deliveries-alike x None = refl
  deliveries-alike (refused e) (Some f) = unfold conclude unchanged in refl
  deliveries-alike (done c) (Some f) = unfold conclude in rw (over-take (notified s c) l, over-take (notified s c) l₁)

  state-alike : (x : Result ℕ Change) → (conclude s b l x).state ≡ (conclude s b₁ l₁ x).state
  unfolding conclude unchanged
  state-alike (refused e) = refl
  state-alike (done c) = refl

-- ── Length: where there is room, how much plays no part in a decision ──
-- no copy is longer than a buffer must be
abbrev pub CopiesFit : State → Type 0
CopiesFit s = (i : ℕ) (u : User) → user_at s.tables.users i ≡ Some u → length (copy_for s u) ≤ max_copy

module _ (s : State) (fit : CopiesFit s) (b b₁ : Bytes) (l l₁ : List ℕ)
    (room : max_copy ≤ length b) (room₁ : max_copy ≤ length b₁) (places : list_room ≤ length l) (places₁ : list_room ≤ length l₁) where
  show-alike : (c : Bytes) → length c ≤ max_copy → decide_show c (length b) ≡ decide_show c (length b₁)
  unfolding decide_show
  show-alike c h = rw (le-ltb (length b) (length c) (omega arith), le-ltb (length b₁) (length c) (omega arith))

  decide-alike : (q : Request) → decide s q (room_for q b l) ≡ decide s q (room_for q b₁ l₁)
  unfolding decide room_for
  decide-alike (login u k) = refl
  decide-alike (in_session n get) = unfold decide_get in (bind-agree _ _ _ λ a e. show-alike _ (fit (index_in n) a.user (asking s n a e).is_user))
  decide-alike (in_session n (push p v)) = unfold decide_push in rw (le-ltb (length l) list_room places, le-ltb (length l₁) list_room places₁)
  decide-alike (in_session n logout) = refl

  line-decides-alike : (q : Option Request) → decide_line s b l q ≡ decide_line s b₁ l₁ q
  unfolding decide_line
  line-decides-alike None = refl
  line-decides-alike (Some q) = decide-alike q

  decision-alike : (x : Bytes) → decision s (line x b l) ≡ decision s (line x b₁ l₁)
  unfolding decision
  decision-alike x = line-decides-alike (request_of x)

  printed-alike : (x : Bytes) → printed (event_in s (line x b l)) ≡ printed (event_in s (line x b₁ l₁))
  unfolding printed push_in request_of_act outcome buffer_of list_of
  printed-alike x = rw (decision-alike x) (ap₂ ◌++◌ (answer-alike s b b₁ l l₁ _) (deliveries-alike s b b₁ l l₁ _ _))

  next-alike : (x : Bytes) → (outcome s (line x b l)).state ≡ (outcome s (line x b₁ l₁)).state
  unfolding outcome buffer_of list_of
  next-alike x = rw (decision-alike x) (state-alike s b b₁ l l₁ _)

-- ── A line: the zeros are long enough too ──
zeros-fit : (n : ℕ) → n ≤ length {A = ℕ} (replicate n 0)
zeros-fit n = rw length-replicate (le_refl n)

pub line-alike : (s : State) → CopiesFit s → (x b : Bytes) (l : List ℕ) → max_copy ≤ length b → list_room ≤ length l →
    (printed (event_in s (line x b l)) ≡ printed (event_in s (with_zeros x))) × ((outcome s (line x b l)).state ≡ (outcome s (with_zeros x)).state)
line-alike s fit x b l room places =
    let copy = zeros-fit max_copy in
    let numbers = zeros-fit list_room in
    (printed-alike s fit b _ l _ room copy places numbers x, next-alike s fit b _ l _ room copy places numbers x)

-- ── A run: each line leaves the same state to the next ──
pub lines-alike : (P : State → Type 0) → ((s : State) (a : Act) → P s → P (outcome s a).state) → ((s : State) → P s → CopiesFit s) →
    (s : State) (xs : List LongEnough) → P s → joined (map printed (events s (map act_of xs))) ≡ joined (map printed (events s (map (λ x. with_zeros x.content) xs)))
unfolding joined events
lines-alike P keeps fit s [] h = refl
lines-alike P keeps fit s (x ∷ xs) h =
    let w = line-alike s (fit s h) x.content x.buffer x.list x.room_for_copy x.room_for_list in
    ap₂ ◌++◌ w.0 (
    lines-alike P keeps fit (outcome s (act_of x)).state xs (keeps s (act_of x) h)
    ∙ ap (λ (y : State). joined (map printed (events y (map (λ z. with_zeros z.content) xs)))) w.1)
