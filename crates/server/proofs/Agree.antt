-- Where the masks agree with the policy, serving by them is serving as documents 01 and 02 say, and they agree again.
use Prim.Native.Nat.{ℕ, ◌≤◌}
use mathlib.Core.Path.{◌≡◌, refl, ap, fun_ext, ◌∙◌}
use Rattle.std.specs.Prelude.{Option, None, Some}
use mathlib.Core.List.{List, [], ◌∷◌, map-append}
use lib.ListN.{length, set, length-set}
use lib.Seq.{take_all}
use Rattle.rows.proofs.Rows.{map-take, map-drop, map-set, get_d_map}
use Rattle.model.specs.Base.{Bytes, keep}
use Rattle.model.specs.Limits.{max_users, max_fields}
use Rattle.model.specs.Fields.{Keys, Field, Fields, store, field_of}
use Rattle.model.specs.Values.{truth}
use mathlib.Core.Bool.{false}
use Rattle.model.specs.Refusals.{Result, refused, done}
use Rattle.model.specs.Tables.{User, Tables, user_at}
use Rattle.model.specs.Opening.{State}
use Rattle.model.specs.Requests.{Request, login, in_session, get, push, logout, request_of}
use Rattle.model.specs.Serving.{index_in, Change, sets_login, shows, stores, readable, copy_for, decide_get, room_for, decide, apply, reads_by, reads_at, notified, Act, line, save, buffer_of, list_of, decide_line, decision, Outcome, unchanged, conclude, outcome}
use Rattle.model.proofs.Lists.{bind-agree}
use Rattle.model.proofs.Decisions.{asking}
use Rattle.masks.specs.Readers.{readers_of, Agreed}
use Rattle.masks.proofs.Readers.{reads-bit}
use Rattle.record.specs.declared.table.Place.{Place}
use Rattle.record.specs.declared.table.Place.TheVariants.{At, Before}
use Rattle.record.specs.Search.{place_in, stored_masks}
use Rattle.record.proofs.Places.{at-below, at_path, at-put, before-put}
use Rattle.record.specs.Slots.{slot_bytes, field_in, fields_in}
use Rattle.layout.proofs.Used.{table-fit}
use Rattle.tables.specs.Memory.{user_row, user_in, users_in, tables_in}
use Rattle.opening.specs.Memory.{Arrays, state_in, state_of, masks_of, Agree}
use Rattle.deliveries.proofs.Received.{receivers-of}
use Rattle.server.specs.Masked.{shown_to, decide_get_masked, decide_masked, decide_line_masked, decision_masked, mask_at, mask_for, notified_masked, conclude_masked, masks_after, Effect, effect_of, effect_by_masks, effect_by_policy}
use Rattle.server.specs.Replies.{Given, outcome_in, Outputs, act, ServedByMasks, ServedByPolicy, LeavesDecided}

-- ── Copies ──
module _ (t : Tables) (few : length t.users ≤ max_users) (i : ℕ) (u : User) (is : user_at t.users i ≡ Some u) where
  shown-agrees : (fs : Fields) (ms : List ℕ) → Agreed t fs ms → shown_to i ms fs ≡ readable t.policy u fs
  unfolding shown_to readable keep reads_at reads_by
  shown-agrees [] ms a = rw a
  shown-agrees (f ∷ fs) ms a = rw (a, reads-bit t few f.path i, is, shown-agrees fs _ refl)

-- ── Masks of a push ──
module _ (t : Tables) (fs : Fields) (ms : List ℕ) (a : Agreed t fs ms) where
  abbrev given : Field → ℕ
  given f = readers_of t f.path

  -- the mask that stands where a path is held is the one that the policy gives
  held-agrees : (p : Keys) (l : Place) → place_in 0 p fs ≡ l → mask_at l (readers_of t p) ms ≡ readers_of t p
  unfolding mask_at
  held-agrees p (At i) e =
      let z = field_of p (truth false) in
      rw (a, get_d_map given i fs 0 z (at-below p fs i e)) (ap (readers_of t) (at_path p fs i e z))
  held-agrees p (Before i) e = refl

  -- and once a field is stored with its mask they agree again
  store-agrees : length fs ≤ max_fields → (f : Field) (l : Place) → place_in 0 f.path fs ≡ l → Agreed t (store f fs) (stored_masks l (given f) ms)
  unfolding store stored_masks
  store-agrees few f (At i) e =
      rw (at-put f.path fs i e f.value, take_all max_fields (set fs i f) (rw length-set few), map-set given i f fs, a)
  store-agrees few f (Before i) e =
      rw (before-put f.path fs i e f.value) (simp (map-take, map-append, map-drop) (rw a))

-- ── A state with masks ──
module _ (s : State) (ms : List ℕ) (users : length s.tables.users ≤ max_users) (fields : length s.fields ≤ max_fields) (a : Agreed s.tables s.fields ms) where
  decide-agrees : (q : Request) (room : ℕ) → decide_masked s ms q room ≡ decide s q room
  unfolding decide_masked decide decide_get_masked decide_get copy_for
  decide-agrees (login u k) room = refl
  decide-agrees (in_session n get) room = bind-agree _ _ _ λ x e.
      let k = asking s n x e in
      rw (k.index, shown-agrees s.tables users (index_in n) x.user k.is_user s.fields ms a)
  decide-agrees (in_session n (push p v)) room = refl
  decide-agrees (in_session n logout) room = refl

  decision-agrees : (x : Act) → decision_masked s ms x ≡ decision s x
  unfolding decision_masked decision decide_line_masked decide_line
  decision-agrees (line t b l) = go (request_of t)
    where
      go : (o : Option Request) → decide_line_masked s ms b l o ≡ decide_line s b l o
      go None = refl
      go (Some q) = decide-agrees q (room_for q b l)
  decision-agrees (save b) = refl

  mask-agrees : (p : Keys) → mask_for s ms p ≡ readers_of s.tables p
  unfolding mask_for
  mask-agrees p = held-agrees s.tables s.fields ms a p (place_in 0 p s.fields) refl

  notified-agrees : (c : Change) → notified_masked s ms c ≡ notified s c
  unfolding notified_masked notified
  notified-agrees (sets_login i x) = refl
  notified-agrees (shows x) = refl
  notified-agrees (stores i x f) = rw (mask-agrees f.path) (receivers-of s users i f.path)

  conclude-agrees : (b : Bytes) (l : List ℕ) (d : Result ℕ Change) → conclude_masked s ms b l d ≡ conclude s b l d
  unfolding conclude_masked conclude
  conclude-agrees b l (refused e) = refl
  conclude-agrees b l (done c) = rw (notified-agrees c)

  masks-agree : (b : Bytes) (l : List ℕ) (d : Result ℕ Change) → Agreed s.tables (conclude s b l d).state.fields (masks_after s ms d)
  unfolding conclude unchanged masks_after apply
  masks-agree b l (refused e) = a
  masks-agree b l (done (sets_login i x)) = a
  masks-agree b l (done (shows x)) = a
  masks-agree b l (done (stores i x f)) = rw (mask-agrees f.path) (store-agrees s.tables s.fields ms a fields f _ refl)

  -- serving by the masks is serving by the policy, and the masks are then those that the policy gives
  pub effects-agree : (x : Act) → effect_by_masks s ms x ≡ effect_by_policy s x
  unfolding effect_by_masks effect_of effect_by_policy outcome
  effects-agree x =
      rw (
        decision-agrees x,
        conclude-agrees (buffer_of x) (list_of x) (decision s x),
        masks-agree (buffer_of x) (list_of x) (decision s x),
        fun_ext mask-agrees,
      )

-- ── Memory ──
pub memory-agrees : (before : Arrays) (x : Act) → Agree before → effect_by_masks (state_of before) (masks_of before) x ≡ effect_by_policy (state_of before) x
unfolding state_in tables_in users_in fields_in
memory-agrees before x a =
    let users = table-fit user_in user_row max_users before.tables in
    let fields = table-fit field_in slot_bytes max_fields before.fields in
    effects-agree (state_of before) (masks_of before) users fields a x

-- what is served by the masks is served as the documents say; the fields and the masks are those of the effect, and the tables stayed: they agree again
pub masked-said : (before after : Arrays) (text : Bytes) (given left : Outputs) (r : Given) → after.tables ≡ before.tables
    → ServedByMasks before text given r after left → ServedByPolicy before text given r after left
unfolding outcome_in effect_by_policy state_in
masked-said before after text given left r same masked a =
    let is = memory-agrees before (act text given) a in
    let kept = ap (λ (o : Outcome). o.state.fields) masked.is ∙ ap (λ (w : Effect). w.outcome.state.fields) is in
    (rw is at masked, masked.memory.masks ∙ ap (λ (w : Effect). w.masks) is ∙ rw (same, kept))

-- where something was decided for a line, it is served by the masks
pub line-masked : (before after : Arrays) (text : Bytes) (given left : Outputs) (r : Given)
    → {d : Result ℕ Change} → decision_masked (state_of before) (masks_of before) (act text given) ≡ d
    → LeavesDecided d text before given r after left → ServedByMasks before text given r after left
unfolding effect_by_masks buffer_of list_of
line-masked before after text given left r is l = rw (← is) at l

-- and as the documents say
pub line-served : (before after : Arrays) (text : Bytes) (given left : Outputs) (r : Given) → after.tables ≡ before.tables
    → {d : Result ℕ Change} → decision_masked (state_of before) (masks_of before) (act text given) ≡ d
    → LeavesDecided d text before given r after left → ServedByPolicy before text given r after left
line-served before after text given left r same is l =
    masked-said before after text given left r same (line-masked before after text given left r is l)
