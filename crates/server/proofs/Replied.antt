-- What a request leaves, from what is decided for it: a refusal keeps all, a login and a logout change the login states, a shown text the buffer.
use Prim.Native.Nat.{ℕ, ◌*◌, ◌≤◌, ◌<◌}
use mathlib.Core.Path.{◌≡◌, refl, ap, ◌∙◌}
use mathlib.Core.List.{List, [], ◌∷◌, ◌++◌, map}
use native.Mathlib.Nat.{zero-add, sub-zero}
use native.Mathlib.Omega.{arith}
use borrow.Author.Tests.{lt-ltb, le-ltb}
use lib.ListN.{length, get_or, take, drop}
use lib.Seq.{take_all, drop-nil}
use Rattle.rows.specs.Rows.{written, Wrote}
use Rattle.rows.proofs.Writing.{written-clipped}
use lib.Dec.{ltb}
use Rattle.model.specs.Base.{Bytes, keep}
use Rattle.model.proofs.Lists.{by_cases}
use Rattle.model.specs.Limits.{max_fields}
use Rattle.model.specs.SavedText.{saved}
use Rattle.model.specs.Refusals.{Result, refused, done, ◌>>=◌, ◌>>◌, refuse◌if◌}
use Rattle.model.specs.Requests.{login, in_session, get, logout}
use Rattle.model.specs.Serving.{Change, sets_login, shows, Answer, refusal, session, login_at, copy_of}
use Rattle.model.specs.Serving.{decide_show, decide_login, decide_logout, decide_save, room_for, decide, decision, buffer_of, list_of}
use Rattle.model.specs.Serving.{apply, notified, shown, answer_of, over, unchanged, conclude, save, outcome}
use Rattle.model.specs.Opening.{LoginState, empty_login}
use Rattle.model.proofs.Decisions.{login-change}
use Rattle.tables.specs.Memory.{user_row, users_bytes, user_in, users_in, policy_in, tables_in}
use Rattle.record.specs.Slots.{slot_bytes, field_in, mask_in, fields_in, masks_in}
use Rattle.writer.specs.declared.saved.Shown.TheVariants.{All, To}
use Rattle.writer.specs.Selected.{is_shown, shown_in}
use Rattle.masks.specs.Bits.{bit_at}
use Rattle.layout.specs.Layout.{in_use, table}
use Rattle.sessions.specs.Logins.{logins_in, StateStored, closed, login_decided, login_answer, LoggedIn, has_session}
use Rattle.std.specs.Prelude as std
use Rattle.std.specs.Prelude.{Option, None, Some, Ok, Err, if◌then◌else◌}
use Rattle.model.specs.Serving.{index_in}
use Rattle.refusals.specs.declared.Refusal.{Refusal}
use Rattle.refusals.specs.declared.Refusal.TheVariants.{NoRoom}
use Rattle.refusals.specs.Numbers.{number_of, numbered}
use Rattle.sessions.proofs.Known.{no-session, in-session, session-unknown, session-known, session-user}
use Rattle.opening.specs.Memory.{Arrays, arrays, state_in}
use Rattle.server.specs.declared.answer.Reply.TheVariants.{Session, Length, Accepted}
use Rattle.server.specs.Replies.{Given, answer_in, told_in, outcome_in, outputs, fields_after, Position, LeavesDecided}
use Rattle.server.specs.Masked.{shown_to, decide_get_masked, decide_masked, mask_for, notified_masked, conclude_masked, masks_after, effect_of}

-- ── Refusals: all is as it was ──
-- p is still the buffer b that was lent
pub left-refused : {d : Result ℕ Change} {e : Refusal} → d ≡ refused (number_of e) → (text : Bytes) (a : Arrays) (b : Bytes) (l : List ℕ) {p : Bytes} → p ≡ b
    → LeavesDecided d text a (outputs b l) (Err e) a (outputs p l)
unfolding outcome_in effect_of conclude_masked masks_after unchanged
left-refused h text a b l kept = record { is = rw (h, kept); memory = record { logins = rw h; fields = rw h; masks = rw h }; position = tt }

-- ── LOGIN ──
-- the reply says what the login states answered
abbrev pub login_reply : std.Result ℕ Refusal → Given
login_reply (Ok n) = Ok (Session n)
login_reply (Err e) = Err e

-- in the model's words, it is a session's number or the refusal's, and nobody is told
abbrev login_told : Result ℕ ℕ → Answer
login_told (refused e) = refusal e
login_told (done n) = session n

login-said : (r : std.Result ℕ Refusal) → (answer_in (login_reply r) ≡ login_told (numbered r)) × (told_in (login_reply r) ≡ 0)
login-said (Ok n) = (refl, refl)
login-said (Err e) = (refl, refl)

no-position : (r : std.Result ℕ Refusal) (d : Result ℕ Change) (text : Bytes) → Position (login_reply r) d text
no-position (Ok n) d text = tt
no-position (Err e) d text = tt

module _ (tables : Bytes) (logins : List ℕ) (n k : Bytes) where
  abbrev entering : Result ℕ Change
  entering = login_decided (users_in tables) (logins_in logins) n k

  -- the decision looks at the users and the login states alone
  login-decides : (fs : Bytes) (room : ℕ) → decide_masked (state_in tables logins fs) (masks_in fs) (login n k) room ≡ entering
  unfolding decide_masked decide decide_login state_in tables_in login_at login_decided
  login-decides fs room = refl

  -- the answer was matched with r
  pub login-left : (after : List ℕ) {answer : std.Result ℕ Refusal} (r : std.Result ℕ Refusal) → LoggedIn tables logins n k answer after → answer ≡ r
      → (fs b : Bytes) (l : List ℕ) (text : Bytes)
      → LeavesDecided (decide_masked (state_in tables logins fs) (masks_in fs) (login n k) (room_for (login n k) b l)) text
      (arrays tables logins fs) (outputs b l) (login_reply r) (arrays tables after fs) (outputs b l)
  unfolding effect_of outcome_in state_in conclude_masked masks_after unchanged answer_of apply shown notified_masked over
  login-left after {answer} r logged is fs b l text = rw (login-decides fs (room_for (login n k) b l)) (record {
    is = (went entering refl).0;
    memory = record { logins = logged.numbers; fields = (went entering refl).1.0; masks = (went entering refl).1.1 };
    position = no-position r entering text;
  })
    where
      said : (answer_in (login_reply r) ≡ login_told (numbered r)) × (told_in (login_reply r) ≡ 0)
      said = login-said r

      answered : numbered r ≡ login_answer entering
      answered = rw is at logged.answers

      went : (d : Result ℕ Change) → entering ≡ d
          → (outcome_in (login_reply r) (state_in tables after fs) b l ≡ conclude_masked (state_in tables logins fs) (masks_in fs) b l entering)
          × ((fs ≡ fields_after (mask_for (state_in tables logins fs) (masks_in fs)) entering fs) × (masks_in fs ≡ masks_after (state_in tables logins fs) (masks_in fs) entering))
      went (refused e) h = (rw (said.0, said.1, answered, logged.leaves, h), (rw h, rw h))
      went (done c) h = unfold login_decided in
          (login-change _ n k c h λ i u named shut few e. (rw (said.0, said.1, answered, logged.leaves, h, ← e), (rw (h, ← e), rw (h, ← e))))

-- ── A text shown: it is written if it fits ──
-- measuring a text, which is writing it into no bytes, leaves the buffer as it was
pub unwritten : (c b : Bytes) {n : ℕ} {o : Bytes} → Wrote 0 c [] n o → o ++ b ≡ b
unwritten c b {o = o} (_, left) = let empty : o ≡ [] = left ∙ written-clipped 0 c [] ∙ rw drop-nil in rw empty

-- a text that fits stands over the start of the buffer
written_over : (c b : Bytes) → length c ≤ length b → written 0 c b ≡ over c b
unfolding over
written_over c b h = written-clipped 0 c b ∙ rw (sub-zero, take_all (length b) c h, zero-add)

-- it is decided to show the text c, and p is still the buffer b that was lent
module _ {d : Result ℕ Change} (c b : Bytes) (decides : d ≡ decide_show c (length b)) (text : Bytes) (a : Arrays) (l : List ℕ) {p : Bytes} (kept : p ≡ b) where
  pub shown-refused : {n : ℕ} {o : Bytes} → Wrote 0 c [] n o → length p < n → LeavesDecided d text a (outputs b l) (Err NoRoom) a (outputs p l)
  unfolding decide_show ◌>>◌ refuse◌if◌
  shown-refused (is, _) h =
      let short : length b < length c = omega (arith, ap length kept) in
      left-refused (decides ∙ rw (lt-ltb (length b) (length c) short)) text a b l kept

  pub shown-done : {m : ℕ} {q : Bytes} → Wrote 0 c p m q → m ≤ length b → LeavesDecided d text a (outputs b l) (Ok (Length m)) a (outputs q l)
  unfolding outcome_in effect_of conclude_masked masks_after decide_show ◌>>◌ refuse◌if◌ answer_of apply shown notified_masked over
  shown-done (is, stands) h =
      let fits : length c ≤ length b = omega arith in
      let shows-it : d ≡ done (shows c) = decides ∙ rw (le-ltb (length b) (length c) fits) in
      record {
        is = rw (shows-it, stands, kept, is, zero-add, written_over c b fits);
        memory = record { logins = rw shows-it; fields = rw shows-it; masks = rw shows-it };
        position = tt;
      }

-- ── GET: the copy is shown; LOGOUT: the session is closed ──
-- the fields of the slots whose mask has the bit of a place
pub shown-slots : (i : ℕ) (s : Bytes) → shown_to i (masks_in s) (fields_in s) ≡ shown_in (To i) s
unfolding masks_in fields_in table shown_in shown_to is_shown keep
shown-slots i s = go (in_use slot_bytes max_fields s)
  where
    go : (rs : List Bytes) → shown_to i (map mask_in rs) (map field_in rs) ≡ map field_in (keep (is_shown (To i)) rs)
    go [] = refl
    go (r ∷ rs) = by_cases (bit_at (mask_in r) i) (λ e. rw (e, go rs)) (λ e. rw (e, go rs))

module _ (tables : Bytes) (logins : List ℕ) (fields : Bytes) (n : ℕ) {o : Option ℕ}
    (answer : o ≡ (if has_session (users_in tables) (logins_in logins) n then Some (index_in n) else None)) where
  pub get-unknown : o ≡ None → (room : ℕ) → decide_masked (state_in tables logins fields) (masks_in fields) (in_session n get) room ≡ refused 14
  unfolding decide_masked decide_get_masked state_in tables_in ◌>>=◌
  get-unknown is room = rw (no-session (state_in tables logins fields) n (session-unknown tables _ n answer is))

  pub logout-unknown : o ≡ None → (room : ℕ) → decide_masked (state_in tables logins fields) (masks_in fields) (in_session n logout) room ≡ refused 14
  unfolding decide_masked decide decide_logout state_in tables_in ◌>>=◌
  logout-unknown is room = rw (no-session (state_in tables logins fields) n (session-unknown tables _ n answer is))

  -- the user's row and the policy are parts of the tables
  pub get-shows : {i : ℕ} {row policy : Bytes} → o ≡ Some i → row ≡ take user_row (drop (i * user_row) tables) → policy ≡ drop users_bytes tables
      → (room : ℕ) → decide_masked (state_in tables logins fields) (masks_in fields) (in_session n get) room ≡ decide_show (copy_of (policy_in policy) (user_in row) (shown_in (To i) fields)) room
  unfolding decide_masked decide_get_masked state_in tables_in ◌>>=◌
  get-shows {i} is at part room =
      let user = session-user tables _ n answer is at in
      let (is_open, index) = session-known tables _ n answer is in
      rw (part, ← shown-slots i fields, in-session (state_in tables logins fields) n user is_open, ← index)

  -- the login state a of the session's user is closed, which makes it c
  module _ {i : ℕ} {a c : LoginState} (is : o ≡ Some i) (state : a ≡ get_or (logins_in logins) i empty_login) (shut : c ≡ closed a) where
    logout-decides : (room : ℕ) → decide_masked (state_in tables logins fields) (masks_in fields) (in_session n logout) room ≡ done (sets_login i c)
    unfolding decide_masked decide decide_logout closed state_in tables_in ◌>>=◌
    logout-decides room =
        let (is_open, index) = session-known tables _ n answer is in
        rw (in-session (state_in tables logins fields) n (session-user tables _ n answer is refl) is_open, ← index, shut, state)

    pub logout-left : {after : List ℕ} → StateStored logins i c after → (text b : Bytes) (l : List ℕ)
        → LeavesDecided (decide_masked (state_in tables logins fields) (masks_in fields) (in_session n logout) (room_for (in_session n logout) b l)) text
        (arrays tables logins fields) (outputs b l) (Ok (Accepted 0 0)) (arrays tables after fields) (outputs b l)
    unfolding outcome_in state_in effect_of conclude_masked masks_after answer_of apply shown notified_masked over closed
    logout-left stored text b l = rw (logout-decides (room_for (in_session n logout) b l)) (record {
      is = rw (stored.states, shut);
      memory = record { logins = stored.numbers; fields = refl; masks = refl };
      position = refl;
    })

-- ── Save: the saved text of all fields is shown ──
all_shown : (s : Bytes) → shown_in All s ≡ fields_in s
unfolding fields_in table shown_in is_shown keep
all_shown s = ap (map field_in) (go (in_use slot_bytes max_fields s))
  where
    go : (rs : List Bytes) → keep (is_shown All) rs ≡ rs
    go [] = refl
    go (r ∷ rs) = ap (r ∷◌) (go rs)

module _ (tables : Bytes) (logins : List ℕ) (fields b : Bytes) where
  pub save-shows : decision (state_in tables logins fields) (save b) ≡ decide_show (saved (shown_in All fields)) (length b)
  unfolding decision decide_save state_in
  save-shows = rw (all_shown fields)

  -- what is concluded from the decision is the outcome, since nobody is told
  pub save-outcome : {p : Bytes} {r : Given} {text : Bytes}
      → LeavesDecided (decision (state_in tables logins fields) (save b)) text (arrays tables logins fields) (outputs b []) r (arrays tables logins fields) (outputs p [])
      → outcome_in r (state_in tables logins fields) p [] ≡ outcome (state_in tables logins fields) (save b)
  unfolding outcome buffer_of list_of effect_of decide_show ◌>>◌ refuse◌if◌ conclude_masked conclude notified_masked notified
  save-outcome left = left.is ∙ rw save-shows (same (saved (shown_in All fields)))
    where
      same : (c : Bytes) → conclude_masked (state_in tables logins fields) (masks_in fields) b [] (decide_show c (length b)) ≡ conclude (state_in tables logins fields) b [] (decide_show c (length b))
      same c = by_cases (ltb (length b) (length c)) (λ e. rw e) (λ e. rw e)
