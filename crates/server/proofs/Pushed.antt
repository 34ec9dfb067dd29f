-- A line that asks for something, and what an accepted and a refused push leave.
use Prim.Native.Nat.{ℕ, ◌≤◌, ◌<◌}
use mathlib.Core.Path.{◌≡◌, refl, sym, ◌∙◌}
use mathlib.Core.Bool.{true, false}
use Rattle.std.specs.Prelude.{Option, None, Some}
use mathlib.Core.List.{List}
use native.Mathlib.Omega.{arith}
use borrow.Author.Tests.{lt-ltb, le-ltb, ne_eqb, leb-true}
use lib.Dec.{ltb}
use lib.ListN.{length, get_or}
use Rattle.model.specs.Base.{Bytes}
use Rattle.model.specs.Limits.{max_users, max_depth, max_line, list_room}
use Rattle.model.specs.Values.{Value, truth, valid_value}
use Rattle.model.specs.Fields.{Keys, valid_keys, field_of}
use Rattle.model.specs.Refusals.{Result, refused, ◌>>◌, refuse◌if◌}
use Rattle.model.specs.Tables.{user_at}
use Rattle.model.specs.Opening.{State}
use Rattle.model.specs.Requests as model
use Rattle.model.specs.Serving.{Change, decide_push, room_for, decide, apply, shown, answer_of, over, line}
use Rattle.model.proofs.Lists.{and_both, elem_below}
use Rattle.model.proofs.Reading.{check-some, within-bounds}
use Rattle.model.proofs.Sound.{push-valid}
use Rattle.model.proofs.Decisions.{decided}
use Rattle.paths.specs.Layout.{path_in, CanonicalPath}
use Rattle.layout.specs.Layout.{key_row, name_in, is_empty}
use Rattle.layout.proofs.Counts.{length-counted}
use Rattle.tables.specs.Memory.{user_row, user_in, users_in, tables_in}
use Rattle.layout.proofs.Used.{length-table, used-fit}
use Rattle.record.specs.Slots.{fields_in, masks_in, slot_of, Proper}
use Rattle.record.specs.declared.table.Place.{Place}
use Rattle.record.specs.Search.{place_in, stored_bytes, stored_masks, stored_field, stored_at}
use Rattle.record.proofs.Slots.{held-valid, slot-encoded}
use Rattle.sessions.specs.declared.LoginState as code
use Rattle.sessions.specs.Logins.{logins_in, state_of, StateStored}
use Rattle.pushes.specs.declared.Ruling.{Ruling}
use Rattle.std.specs.Prelude as std
use Rattle.std.specs.Prelude.{Ok}
use Rattle.refusals.specs.declared.Refusal.{Refusal}
use Rattle.pushes.specs.Rulings.{ruling_answer, push_decided, RuledAs}
use Rattle.deliveries.specs.Receivers.{Listed}
use Rattle.masks.specs.Readers.{readers_of}
use Rattle.requests.specs.declared.Request.{Request}
use Rattle.values.specs.declared.value.Scalar.{Scalar}
use Rattle.requests.specs.declared.Ask.TheVariants.{Push}
use Rattle.requests.specs.declared.Request.TheVariants.{InSession}
use Rattle.requests.specs.Lines.{request_in, ReadsAs, RequestStands, PushStands, SlotAfter}
use Rattle.opening.specs.Memory.{arrays, state_in}
use Rattle.server.specs.declared.answer.Reply.TheVariants.{Accepted}
use Rattle.server.specs.Replies.{outcome_in, outputs, LeavesDecided}
use Rattle.server.specs.Masked.{decide_masked, decide_line_masked, decision_masked, mask_at, mask_for, notified_masked, conclude_masked, masks_after, effect_of}

-- ── A line s that was taken apart, its path in a slot ──
module _ (s path : Bytes) {r : Option Request} (answer : ReadsAs model.request_of s (path_in path) r) where
  -- it cannot be taken apart
  pub line_refused : r ≡ None → (st : State) (ms : List ℕ) (b : Bytes) (l : List ℕ) → decision_masked st ms (line s b l) ≡ refused 11
  unfolding decision_masked decide_line_masked
  line_refused is st ms b l = rw (← answer.asks, is)

  -- r says that it asks for something, which was matched with q
  module _ {asked q : Request} (is : r ≡ Some asked) (kind : asked ≡ q) where
    pub asks : model.request_of s ≡ Some (request_in s (path_in path) q)
    asks = sym answer.asks ∙ rw (is, kind)

    pub asked-stands : RequestStands s (path_in path) q
    asked-stands = rw (is, kind) at answer.stands

    pub asked-short : length s ≤ max_line
    unfolding model.request_of
    asked-short = check-some _ _ _ asks λ t k. leb-true _ _ t

    pub line-decided : (st : State) (ms : List ℕ) (b : Bytes) (l : List ℕ)
        → decision_masked st ms (line s b l) ≡ decide_masked st ms (request_in s (path_in path) q) (room_for (request_in s (path_in path) q) b l)
    unfolding decision_masked decide_line_masked
    line-decided st ms b l = rw asks

-- a push has keys, and a value within its limits
pub push-asked : (s path : Bytes) {n : ℕ} {v : Value} → model.request_of s ≡ Some (model.in_session n (model.push (path_in path) v))
    → (is_empty path ≡ false) × (valid_value v ≡ true)
unfolding is_empty valid_keys path_in model.push_of
push-asked s path {n} {v} h =
    let valid = push-valid s _ (field_of (path_in path) v) refl h in
    let bounds = within-bounds 1 max_depth (length (path_in path)) (and_both _ _ valid.path).0 in
    let count = length-counted name_in key_row max_depth path in
    (ne_eqb (get_or path 0 0) 0 (λ e. omega arith), valid.value)

-- and its slot has the bytes of its path
pub slot-asked : (before path : Bytes) {r : Option Request} {asked : Request} {n at : ℕ} {v : Scalar} → r ≡ Some asked → asked ≡ InSession n (Push at v)
    → SlotAfter r before path → CanonicalPath path
slot-asked before path is kind slot = rw (is, kind) at slot

-- ── PUSH: the list's length decides first, then the ruling ──
module _ (tables : Bytes) (logins : List ℕ) (fields : Bytes) (n : ℕ) (path : Bytes) where
  abbrev p : Keys
  p = path_in path

  abbrev pushing : Value → ℕ → Result ℕ Change
  pushing v room = decide_masked (state_in tables logins fields) (masks_in fields) (model.in_session n (model.push p v)) room

  push-decides : (room : ℕ) (v : Value) → pushing v room ≡ ((refuse 15 if ltb room list_room) >> push_decided (tables_in tables) (logins_in logins) (fields_in fields) n p v)
  unfolding decide_masked decide decide_push state_in push_decided refuse◌if◌ ◌>>◌
  push-decides room v = refl

  pub push-short : (room : ℕ) → room < list_room → (v : Value) → pushing v room ≡ refused 15
  unfolding refuse◌if◌ ◌>>◌
  push-short room h v = push-decides room v ∙ rw (lt-ltb room list_room h)

  -- o is the ruling
  module _ {o : std.Result Ruling Refusal} (ruled : RuledAs tables logins fields n path o) where
    pub push-ruled : {w : std.Result Ruling Refusal} → o ≡ w → (room : ℕ) → list_room ≤ room → (v : Value) → pushing v room ≡ ruling_answer w p v
    unfolding refuse◌if◌ ◌>>◌
    push-ruled is room h v = push-decides room v ∙ rw (le-ltb room list_room h, ← ruled.answers v, is)

    module _ {w : Ruling} (is : o ≡ Ok w) where
      -- the field is stored where the search for its path ended
      pub push-place : w.place ≡ place_in 0 p (fields_in fields)
      push-place = rw is at ruled.place

      -- the index is a user's
      pub push-below : w.index < max_users
      unfolding state_in tables_in users_in user_at decide decide_push decide_masked
      push-below =
          let stored = decided (state_in tables logins fields) (model.in_session n (model.push p (truth false))) list_room _ (push-ruled is list_room (omega arith) (truth false)) in
          let below = elem_below (users_in tables) w.index stored.user stored.is_user in
          omega (arith, below, length-table user_in user_row max_users tables, used-fit user_row max_users tables)

      -- the mask is the path's, the numbers are listed, the login state is put, the value is stored
      pub push-done : (b : Bytes) (l : List ℕ) → list_room ≤ length l → {told mask : ℕ} {l₁ : List ℕ} (logins₁ : List ℕ) (fields₁ : Bytes)
          → mask ≡ mask_at w.place (readers_of (tables_in tables) p) (masks_in fields)
          → Listed logins w.index mask l told l₁ → StateStored logins w.index (state_of w.state) logins₁
          → (v : Value) → fields_in fields₁ ≡ stored_at path v (fields_in fields) → masks_in fields₁ ≡ stored_masks w.place mask (masks_in fields)
          → fields₁ ≡ stored_bytes w.place (slot_of path mask v) fields
          → is_empty path ≡ false → Proper path v → (text : Bytes) (from : ℕ) → PushStands text p from v
          → LeavesDecided (pushing v (length l)) text (arrays tables logins fields) (outputs b l) (Ok (Accepted told from)) (arrays tables logins₁ fields₁) (outputs b l₁)
      unfolding outcome_in state_in effect_of conclude_masked masks_after mask_for answer_of apply shown notified_masked over stored_at stored_field
      push-done b l h logins₁ fields₁ mask reached state v stored masks bytes keyed proper text from stands = rw (push-ruled is (length l) h v) (record {
        is = rw (reached.listed, reached.counted, state.states, stored, keyed, held-valid v proper.1, mask, push-place);
        memory = record {
          logins = state.numbers;
          fields = bytes ∙ rw (mask, push-place, slot-encoded path _ v proper);
          masks = masks ∙ rw (mask, push-place);
        };
        position = stands;
      })
