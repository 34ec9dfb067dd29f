-- Serving by the masks on document 01's example (document 02, request 2), as states, pushes and copies; proofs/MaskedCasesHold proves what is said of them.
-- The places: ann 0, bob 1, cy 2, so their bits count 1, 2 and 4. The fields in their order: e7 cv 1, e7 cv 29, e7 name, e7 note, e9 cv 1, e9 name.
use Rattle.std.specs.Prelude.{ℕ, List, [], ◌∷◌, map, Bool, ◌&&◌, take, replicate}
use Prim.Native.String.{String}
use Rattle.model.specs.Base.{◌≐◌}
use Rattle.model.specs.Opening.{State}
use Rattle.model.specs.Serving.{over}
use Rattle.model.specs.Runs.{end}
use Rattle.model.specs.Runs
use Rattle.model.specs.Cases.{rows, club_texts, asked, club_state}
use Rattle.masks.specs.Bits.{bit_at, mask_of}
use Rattle.masks.specs.Readers.{readers_of}
use Rattle.record.specs.Search.{place_in, stored_masks}
use Rattle.deliveries.specs.Receivers.{receives, receivers_of}
use Rattle.server.specs.Masked.{shown_to, decide_get_masked, decide_masked, decide_line_masked, decision_masked, mask_at, mask_for, notified_masked, conclude_masked, masks_after, effect_of, effect_by_masks}

-- every definition that serving by the masks needs, at once
unfoldable pub Opened : Unit {0}
unfolding Runs.Opened rows club_texts asked club_state bit_at mask_of readers_of place_in stored_masks receives receivers_of shown_to decide_get_masked decide_masked decide_line_masked decision_masked mask_at mask_for notified_masked conclude_masked masks_after effect_of effect_by_masks
Opened = tt

-- the masks that the policy gives: names are for everybody, the note for cy, the rest for ann and bob
unfoldable pub given : List ℕ
given = 3 ∷ 3 ∷ 7 ∷ 4 ∷ 3 ∷ 7 ∷ []

-- others: a mask beside e7 cv 29, and one beside e7 note
masks : ℕ → ℕ → List ℕ
masks cv note = 0 ∷ cv ∷ 0 ∷ note ∷ 0 ∷ 0 ∷ []

-- all three have a session: 1, 65537 and 131073
all_in : State
all_in = end club_state (map (asked 0) ("LOGIN;ann;k1" ∷ "LOGIN;bob;k2" ∷ "LOGIN;cy;k3" ∷ []))

-- bob has left
bob_out : State
bob_out = end all_in (map (asked 0) ("LOGOUT;65537" ∷ []))

pub data Case : Type 0 where
  -- by these masks this push reaches these sessions, and leaves these masks
  pushes : State → List ℕ → String → List ℕ → List ℕ → Case
  -- by these masks bob's copy has these fields
  copies : List ℕ → String → Case

unfoldable pub passes : Case → Bool
unfolding all_in
passes (pushes s ms l reached left) =
    let e = effect_by_masks s ms (asked 0 l) in
    (take e.outcome.told e.outcome.list ≐ reached) && (e.masks ≐ left)
passes (copies ms fields) = (effect_by_masks all_in ms (asked 200 "GET;65537")).outcome.buffer ≐
    over
    (rows ("role;access;path" ∷ "driver;READ;$[*]['name']" ∷ "driver;READ;$[*]['cv']['1','29']" ∷ "name;value" ∷ fields ∷ []))
    (replicate 200 0)

unfoldable pub cases : List Case
unfolding given masks all_in bob_out
cases =
    -- a new field gets the mask that the policy gives, at its place, and the others move along
    pushes all_in given "PUSH;1;$['e9']['cv']['3'];10" [] (3 ∷ 3 ∷ 7 ∷ 4 ∷ 3 ∷ 1 ∷ 7 ∷ []) ∷
    -- and that mask says whom it reaches
    pushes all_in (masks 0 0) "PUSH;1;$['e9']['cv']['29'];5" (65537 ∷ []) (0 ∷ 0 ∷ 0 ∷ 0 ∷ 0 ∷ 3 ∷ 0 ∷ []) ∷
    -- a push to a held field reaches those in its mask but the sender, and changes no mask
    pushes all_in given "PUSH;1;$['e7']['cv']['29'];38" (65537 ∷ []) given ∷
    pushes all_in (masks 7 0) "PUSH;1;$['e7']['cv']['29'];38" (65537 ∷ 131073 ∷ []) (masks 7 0) ∷
    pushes all_in (masks 5 2) "PUSH;1;$['e7']['cv']['29'];38" (131073 ∷ []) (masks 5 2) ∷
    -- of them those with an open session
    pushes bob_out (masks 7 0) "PUSH;1;$['e7']['cv']['29'];38" (131073 ∷ []) (masks 7 0) ∷
    -- who may write is asked of the policy: bob is refused
    pushes all_in (masks 7 7) "PUSH;65537;$['e7']['cv']['29'];38" [] (masks 7 7) ∷
    -- bob's copy by the policy's masks
    copies given "{\"e7\":{\"cv\":{\"1\":3,\"29\":6},\"name\":\"Tank 7\"},\"e9\":{\"cv\":{\"1\":12},\"name\":\"Mail\"}}" ∷
    -- where his bit stands beside no field
    copies (masks 0 0) "{}" ∷
    -- and where it stands beside the note alone, which the policy hides from him
    copies (masks 5 2) "{\"e7\":{\"note\":\"shelf B\"}}" ∷
    []
