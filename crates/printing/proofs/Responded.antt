-- What a reply says of the buffer, the list and the line, and what is printed for it.
use Prim.Native.Nat.{ℕ, ◌≤◌}
use mathlib.Core.Path.{◌≡◌, refl, sym, ap, subst, ◌∙◌}
use Rattle.std.specs.Prelude.{Option, None, Some}
use mathlib.Core.List.{List, [], ◌++◌, map, append-nil}
use native.Mathlib.Omega.{arith}
use borrow.Author.Tests.{leb-true, ltb-false}
use lib.ListN.{length, take, drop, length-append, length-drop}
use Rattle.rows.specs.Rows.{Wrote}
use Rattle.model.specs.Base.{Bytes, text, joined, between, ◌>>=◌}
use Rattle.model.specs.Limits.{max_line, max_users}
use Rattle.model.specs.Values.{Value}
use Rattle.model.specs.Fields.{Keys, Field}
use Rattle.model.specs.Refusals.{Result, refused, done}
use Rattle.model.specs.Opening.{State}
use Rattle.model.specs.Requests.{Request, login, in_session, get, push, logout, request_of, push_of}
use Rattle.model.specs.Serving.{Change, sets_login, shows, stores, decide_show, room_for, decide, shown, answer_of}
use Rattle.model.specs.Serving.{length_is, accepted, line, buffer_of, list_of, Outcome, over, unchanged}
use Rattle.model.specs.Runs.{request_of_act, push_in, delivery_line}
use Rattle.model.specs.Program.{print_deliveries, print_answer, printed}
use Rattle.model.proofs.Lists.{all-every, map-agree, past, past-if, done-same}
use Rattle.model.proofs.Reading.{check-some}
use Rattle.model.proofs.Decisions.{answers-length, decided}
use Rattle.model.proofs.Decisions as decisions
use Rattle.requests.specs.Lines.{pushed_text}
use Rattle.deliveries.specs.Receivers.{delivery_of}
use Rattle.deliveries.proofs.Received.{receivers-few}
use Rattle.deliveries.proofs.Delivered.{delivery-as}
use Rattle.opening.specs.Memory.{Arrays, state_of, masks_of}
use Rattle.std.specs.Prelude.{Ok, Err}
use Rattle.server.specs.declared.answer.Reply.TheVariants.{Session, Length, Accepted}
use Rattle.server.specs.Masked.{decide_get_masked, decide_masked, decide_line_masked, decision_masked, mask_for, notified_masked, conclude_masked, effect_of, effect_by_masks}
use Rattle.server.specs.Replies.{Given, answer_in, told_in, outcome_in, Outputs, StandsAt, act, event_of, ServedByMasks}
use Rattle.server.proofs.Agree.{memory-agrees, masked-said}
use Rattle.printing.specs.Printed.{most_printed, Inside, Left, RespondsByMasks, RespondsByPolicy}

length_over : {A : Type 0} (new old : List A) → length new ≤ length old → length (over new old) ≡ length old
unfolding over
length_over new old h = simp (length-append, length-drop) (omega arith)

-- ── A decision: what is shown and who is told have room ──
module _ (s : State) (ms : List ℕ) (b : Bytes) (l : List ℕ) where
  -- by the masks the same is decided as by the policy, or a GET shows a text for which there is room
  by_word : {C : Type 0} (q : Request) (c : Change) → decide_masked s ms q (room_for q b l) ≡ done c
      → (decide s q (room_for q b l) ≡ done c → C) → ((x : Bytes) → shows x ≡ c → length x ≤ length b → C) → C
  unfolding decide_masked decide_get_masked room_for decide_show
  by_word (login u k) c h same copied = same h
  by_word (in_session n get) c h same copied = past _ _ _ h λ a isAsker h₁. past-if _ _ _ _ h₁ λ fits h₂. copied _ (done-same h₂) (ltb-false _ _ fits)
  by_word (in_session n (push p v)) c h same copied = same h
  by_word (in_session n logout) c h same copied = same h

  shown-fits : (q : Request) (c : Change) → decide_masked s ms q (room_for q b l) ≡ done c → length (shown c) ≤ length b
  unfolding shown
  shown-fits q c h = by_word q c h (λ e. decisions.shown-fits s q b l c e) (λ x is fits. rw (← is) fits)

  told-fits : (q : Request) (c : Change) → decide_masked s ms q (room_for q b l) ≡ done c
      → (length (notified_masked s ms c) ≤ max_users) × (length (notified_masked s ms c) ≤ length l)
  unfolding notified_masked
  told-fits q (sets_login i a) h = (omega arith, omega arith)
  told-fits q (shows x) h = (omega arith, omega arith)
  told-fits q (stores i a f) h = by_word q _ h
      (λ e. let few = receivers-few s.login_states i (mask_for s ms f.path) in (few, omega (arith, few, decisions.told-fits s q b l i a f e)))
      (λ x is fits. let z : ◌≡◌ {A = ℕ} 0 1 = cc in absurd (omega arith))

  -- a line is refused, or something is decided for its request
  by-line : (t : Bytes) (P : Result ℕ Change → Type 0) → ((e : ℕ) → P (refused e))
      → ((q : Request) (c : Change) → request_of t ≡ Some q → decide_masked s ms q (room_for q b l) ≡ done c → P (done c)) → P (decision_masked s ms (line t b l))
  unfolding decision_masked decide_line_masked
  by-line t P kept left = go (request_of t) refl
    where
      of-request : (q : Request) → request_of t ≡ Some q → (d : Result ℕ Change) → decide_masked s ms q (room_for q b l) ≡ d → P d
      of-request q asks (refused e) h = kept e
      of-request q asks (done c) h = left q c asks h

      go : (o : Option Request) → request_of t ≡ o → P (decide_line_masked s ms b l o)
      go None asks = kept 11
      go (Some q) asks = of-request q asks _ refl

shown-length : (c : Change) (n : ℕ) → answer_of c ≡ length_is n → n ≡ length (shown c)
unfolding answer_of shown
shown-length (sets_login i a) n h = answers-length i a n h
shown-length (shows x) n h = cc
shown-length (stores i a f) n h = let z : ◌≡◌ {A = ℕ} 0 1 = cc in absurd (omega arith)

inside_of : (r : Given) (m : ℕ) → ((n : ℕ) → answer_in r ≡ length_is n → n ≤ m) → Inside r m
inside_of (Err e) m f = tt
inside_of (Ok (Session n)) m f = tt
inside_of (Ok (Length n)) m f = f n refl
inside_of (Ok (Accepted k at)) m f = tt

-- what the code's `else` tells of a reply
abbrev pub NotAccepted : Given → Type 0
NotAccepted r = (k at : ℕ) → r ≡ Ok (Accepted k at) → ⊥

none_told : (r : Given) → NotAccepted r → told_in r ≡ 0
none_told (Err e) o = refl
none_told (Ok (Session n)) o = refl
none_told (Ok (Length n)) o = refl
none_told (Ok (Accepted k at)) o = absurd (o k at refl)

untold : (o : Outcome) (f : Option Field) → o.told ≡ 0 → print_deliveries o f ≡ []
unfolding print_deliveries joined
untold o None h = refl
untold o (Some f) h = rw h

-- the document's lines, each with its end
deliveries-as : (p : Keys) (v : Value) (l : List ℕ) → map (λ m. delivery_line p v m ++ text "\n") l ≡ map (delivery_of (pushed_text p v)) l
unfolding pushed_text between
deliveries-as p v l = map-agree _ _ l (all-every _ (delivery-as p v) l)

-- ── A line that is accepted: who is told is told what stands in it from the position on ──
record Speaks (t : Bytes) (at : ℕ) (o : Outcome) : Type 0 where
  within : at ≤ length t
  short : length t ≤ max_line
  tells : print_deliveries o (request_of t >>= push_of) ≡ joined (map (delivery_of (drop at t)) (take o.told o.list))

module _ (s : State) (ms : List ℕ) (b : Bytes) (l : List ℕ) (t : Bytes) (at : ℕ) where
  asks-short : {q : Request} → request_of t ≡ Some q → length t ≤ max_line
  unfolding request_of
  asks-short asks = check-some _ _ _ asks λ short _. leb-true _ _ short

  accepts : (q : Request) (c : Change) → request_of t ≡ Some q → decide_masked s ms q (room_for q b l) ≡ done c → answer_of c ≡ accepted → StandsAt (done c) t at
      → Speaks t at (conclude_masked s ms b l (done c))
  unfolding answer_of conclude_masked notified_masked print_deliveries joined
  accepts q (sets_login i a) asks h is stands = by_word s ms b l q _ h
      (λ e. record { within = omega (arith, stands); short = asks-short asks; tells = rw (asks, (decided s q (room_for q b l) _ e).quiet) })
      (λ x shows-it fits. let z : ◌≡◌ {A = ℕ} 0 1 = cc in absurd (omega arith))
  accepts q (shows x) asks h is stands = let z : ◌≡◌ {A = ℕ} 0 1 = cc in absurd (omega arith)
  accepts q (stores i a f) asks h is stands = by_word s ms b l q _ h
      (λ e.
      let told = notified_masked s ms (stores i a f) in
      record {
        within = stands.within;
        short = asks-short asks;
        tells = rw (asks, (decided s q (room_for q b l) _ e).pushed, stands.pushed, deliveries-as f.path f.value (take (length told) (over told l)));
      })
      (λ x shows-it fits. let z : ◌≡◌ {A = ℕ} 0 1 = cc in absurd (omega arith))

-- ── The reply r to a line, with what it left ──
module _ (before : Arrays) (t : Bytes) (given : Outputs) (r : Given) (after : Arrays) (left : Outputs) (served : ServedByMasks before t given r after left) where
  abbrev s : State
  s = state_of before

  abbrev ms : List ℕ
  ms = masks_of before

  abbrev b : Bytes
  b = given.buffer

  abbrev l : List ℕ
  l = given.list

  -- what a line comes to, by the masks
  abbrev done-by : Outcome
  done-by = (effect_by_masks s ms (act t given)).outcome

  reply-is : outcome_in r (state_of after) left.buffer left.list ≡ conclude_masked s ms b l (decision_masked s ms (line t b l))
  unfolding effect_by_masks effect_of buffer_of list_of
  reply-is = served.is

  by-reply : (P : Outcome → Type 0) → ((e : ℕ) → P (unchanged s b l e))
      → ((q : Request) (c : Change) → request_of t ≡ Some q → decide_masked s ms q (room_for q b l) ≡ done c → P (conclude_masked s ms b l (done c)))
      → P (outcome_in r (state_of after) left.buffer left.list)
  unfolding conclude_masked
  by-reply P kept decides = subst P (sym reply-is) (by-line s ms b l t (λ d. P (conclude_masked s ms b l d)) kept decides)

  -- a length that was answered lies in the buffer, which is as long as it was
  pub reply-inside : Inside r (length b) × (length left.buffer ≡ length b)
  unfolding outcome_in unchanged conclude_masked
  reply-inside = (
    inside_of r (length b) (
        by-reply (λ o. (n : ℕ) → o.answer ≡ length_is n → n ≤ length b)
        (λ e n is. let z : ◌≡◌ {A = ℕ} 0 1 = cc in absurd (omega arith))
        (λ q c asks h n is. omega (arith, shown-fits s ms b l q c h, shown-length c n is))),
    by-reply (λ o. length o.buffer ≡ length b) (λ e. refl) (λ q c asks h. length_over (shown c) b (shown-fits s ms b l q c h)),
  )

  reply-left : Left done-by (state_of after) left
  unfolding outcome_in
  reply-left = (ap (λ (o : Outcome). o.state) served.is, ap (λ (o : Outcome). o.buffer) served.is, ap (λ (o : Outcome). o.list) served.is)

  -- what is printed for it is written: by the masks
  pub responds-masked : {from out : Bytes} {n : ℕ} → Wrote 0 (printed (event_of s (act t given) done-by)) from n out → n ≤ most_printed
      → RespondsByMasks before t given after left from n out
  responds-masked wrote short = record { leaves = reply-left; memory = served.memory; wrote = wrote; short = short }

  -- and where they agree with the policy as documents 01 and 02 say
  pub responds : after.tables ≡ before.tables → {from out : Bytes} {n : ℕ} → Wrote 0 (printed (event_of s (act t given) done-by)) from n out → n ≤ most_printed
      → RespondsByPolicy before t given after left from n out
  responds same {from} {out} {n} wrote short =
      let masked : RespondsByMasks before t given after left from n out = responds-masked wrote short in
      λ a. (rw (memory-agrees before (act t given) a) at masked, (masked-said before after t given left r same served a).1)

  -- for a reply that tells nobody, the answer alone
  pub printed-other : NotAccepted r → printed (event_of s (act t given) done-by) ≡ print_answer left.buffer (answer_in r)
  unfolding printed outcome_in
  printed-other other = rw (← served.is, untold (outcome_in r (state_of after) left.buffer left.list) _ (none_told r other), append-nil)

  -- ── It is accepted ──
  module _ {k at : ℕ} (is : r ≡ Ok (Accepted k at)) where
    speaks : Speaks t at (outcome_in r (state_of after) left.buffer left.list)
    unfolding outcome_in conclude_masked unchanged effect_by_masks effect_of
    speaks = subst (Speaks t at) (sym reply-is) (
        by-line s ms b l t (λ d. (conclude_masked s ms b l d).answer ≡ accepted → StandsAt d t at → Speaks t at (conclude_masked s ms b l d))
        (λ e h. let z : ◌≡◌ {A = ℕ} 0 1 = cc in absurd (omega arith))
        (λ q c asks h. accepts s ms b l t at q c asks h)
        (ap (λ (o : Outcome). o.answer) (sym reply-is) ∙ ap answer_in is)
        (rw is at served.position))

    pub accepted-inside : (at ≤ length t) × (length t ≤ max_line)
    accepted-inside = (speaks.within, speaks.short)

    -- the deliveries too, with path and value as they stand in the line
    pub printed-accepted : printed (event_of s (act t given) done-by) ≡ print_answer left.buffer (answer_in r) ++ joined (map (delivery_of (drop at t)) (take k left.list))
    unfolding printed push_in request_of_act outcome_in
    printed-accepted = rw (← served.is, speaks.tells, ap told_in is)

    -- at most 32 sessions are told, and the list has room for them
    pub accepted-few : (k ≤ max_users) × (k ≤ length left.list)
    unfolding outcome_in unchanged conclude_masked
    accepted-few = rw (ap told_in is) at
        (by-reply (λ o. (o.told ≤ max_users) × (o.told ≤ length o.list))
        (λ e. (omega arith, omega arith))
        (λ q c asks h. let (less, room) = told-fits s ms b l q c h in (less, rw (length_over _ l room) room)))
