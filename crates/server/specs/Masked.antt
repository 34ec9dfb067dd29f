-- Serving by what is remembered: the masks beside the fields, whatever they hold (document 02, request 2). Nothing but who may read is taken from them.
use Rattle.std.specs.Prelude.{ℕ, List, [], ◌∷◌, length, get_or, if◌then◌else◌}
use Rattle.std.specs.Prelude.{Option, None, Some}
use Rattle.model.specs.Base.{Bytes}
use Rattle.model.specs.Fields.{Keys, Fields}
use Rattle.model.specs.Refusals.{Result, refused, done, ◌>>=◌}
use Rattle.model.specs.Opening.{State}
use Rattle.model.specs.Requests.{Request, login, in_session, get, push, logout, request_of}
use Rattle.model.specs.Serving.{Change, sets_login, shows, stores, copy_of, asker, decide_show, room_for, decide, decide_save, apply, shown, answer_of}
use Rattle.model.specs.Serving.{Act, line, save, buffer_of, list_of, decision, Outcome, over, unchanged, outcome}
use Rattle.masks.specs.Bits.{bit_at}
use Rattle.masks.specs.Readers.{readers_of, policy_masks}
use Rattle.record.specs.declared.table.Place.{Place}
use Rattle.record.specs.declared.table.Place.TheVariants.{At, Before}
use Rattle.record.specs.Search.{place_in, stored_masks}
use Rattle.deliveries.specs.Receivers.{receivers_of}

-- ── Copies ──
-- the fields whose mask has the bit of the user at i
unfoldable pub shown_to : ℕ → List ℕ → Fields → Fields
shown_to i [] fs = []
shown_to i (m ∷ ms) [] = []
shown_to i (m ∷ ms) (f ∷ fs) = let r = shown_to i ms fs in if bit_at m i then f ∷ r else r

-- GET: 14, and 15 for the copy with these fields
unfoldable pub decide_get_masked : State → List ℕ → ℕ → ℕ → Result ℕ Change
decide_get_masked s ms n room = do
  a ← asker s n
  decide_show (copy_of s.tables.policy a.user (shown_to a.index ms s.fields)) room

-- no other request is decided by who may read: whether the sender may write is asked of the policy
unfoldable pub decide_masked : State → List ℕ → Request → ℕ → Result ℕ Change
decide_masked s ms (login u k) room = decide s (login u k) room
decide_masked s ms (in_session n get) room = decide_get_masked s ms n room
decide_masked s ms (in_session n (push p v)) room = decide s (in_session n (push p v)) room
decide_masked s ms (in_session n logout) room = decide s (in_session n logout) room

-- "A line is first taken apart; one that cannot be is refused 11"
unfoldable pub decide_line_masked : State → List ℕ → Bytes → List ℕ → Option Request → Result ℕ Change
decide_line_masked s ms b l None = refused 11
decide_line_masked s ms b l (Some q) = decide_masked s ms q (room_for q b l)

-- what an act is decided to be: a save looks at no mask
unfoldable pub decision_masked : State → List ℕ → Act → Result ℕ Change
decision_masked s ms (line t b l) = decide_line_masked s ms b l (request_of t)
decision_masked s ms (save b) = decide_save s (length b)

-- ── Deliveries ──
-- the mask that stands at a place, or a new one
unfoldable pub mask_at : Place → ℕ → List ℕ → ℕ
mask_at (At i) new ms = get_or ms i 0
mask_at (Before i) new ms = new

-- the mask of a path: the one beside the field that is held there; "when a push adds a field" it is made
unfoldable pub mask_for : State → List ℕ → Keys → ℕ
mask_for s ms p = mask_at (place_in 0 p s.fields) (readers_of s.tables p) ms

-- the numbers that the list receives
unfoldable pub notified_masked : State → List ℕ → Change → List ℕ
notified_masked s ms (sets_login i a) = []
notified_masked s ms (shows c) = []
notified_masked s ms (stores i a f) = receivers_of s.login_states i (mask_for s ms f.path)

-- ── What is left ──
-- as without masks (`conclude`), but for whom the list names
unfoldable pub conclude_masked : State → List ℕ → Bytes → List ℕ → Result ℕ Change → Outcome
conclude_masked s ms b l (refused e) = unchanged s b l e
conclude_masked s ms b l (done c) = record {
  answer = answer_of c;
  state = apply c s;
  buffer = over (shown c) b;
  list = over (notified_masked s ms c) l;
  told = length (notified_masked s ms c);
}

-- the masks: a field that is stored has its own
unfoldable pub masks_after : State → List ℕ → Result ℕ Change → List ℕ
masks_after s ms (refused e) = ms
masks_after s ms (done (sets_login i a)) = ms
masks_after s ms (done (shows c)) = ms
masks_after s ms (done (stores i a f)) = stored_masks (place_in 0 f.path s.fields) (mask_for s ms f.path) ms

-- what serving comes to: what is decided, what it leaves, the mask that a path has, and the masks afterwards
pub record Effect : Type 0 where
  pub decided : Result ℕ Change
  pub outcome : Outcome
  pub mask : Keys → ℕ
  pub masks : List ℕ

-- by the masks, once something is decided
unfoldable pub effect_of : State → List ℕ → Bytes → List ℕ → Result ℕ Change → Effect
effect_of s ms b l d = record { decided = d; outcome = conclude_masked s ms b l d; mask = mask_for s ms; masks = masks_after s ms d }

-- and of an act
unfoldable pub effect_by_masks : State → List ℕ → Act → Effect
effect_by_masks s ms a = effect_of s ms (buffer_of a) (list_of a) (decision_masked s ms a)

-- by the policy, as documents 01 and 02 say
unfoldable pub effect_by_policy : State → Act → Effect
effect_by_policy s a = record {
  decided = decision s a;
  outcome = outcome s a;
  mask = readers_of s.tables;
  masks = policy_masks s.tables (outcome s a).state.fields;
}
