-- The claims of specs/Calls, in their order.
use Prim.Native.Nat.{ℕ}
use mathlib.Core.Path.{◌≡◌, refl, sym, ap, ap₂, ◌∙◌}
use mathlib.Core.Bool.{false}
use mathlib.Core.List.{List, [], ◌∷◌}
use native.Mathlib.Omega.{arith}
use lib.ListN.{take}
use lib.Seq.{set-get_or}
use Rattle.rows.specs.Rows.{insert_at}
use Rattle.rows.proofs.Rows.{get_d_map}
use Rattle.model.specs.Values.{truth}
use Rattle.model.specs.Fields.{Field, field_of}
use Rattle.model.specs.Refusals.{Result, refused, done}
use Rattle.model.specs.Opening.{State, Fault, opened, kept, after_opening}
use Rattle.model.specs.Serving.{Act, save, Outcome, outcome}
use Rattle.model.specs.Runs.{Event, events, end}
use Rattle.model.proofs.Lists.{never}
use Rattle.record.specs.declared.table.Place.{Place}
use Rattle.record.specs.declared.table.Place.TheVariants.{At, Before}
use Rattle.record.specs.Search.{place_in, stored_masks}
use Rattle.record.specs.Slots.{fields_in, field_at}
use Rattle.record.proofs.Places.{at-holds, before-holds}
use Rattle.model.specs.Limits.{max_users, max_fields}
use Rattle.masks.specs.Readers.{readers_of}
use Rattle.masks.proofs.Readers.{reads-bit}
use Rattle.layout.proofs.Used.{table-fit}
use Rattle.tables.specs.Memory.{user_row, user_in, users_in, tables_in}
use Rattle.opening.specs.Memory.{Arrays, state_of}
use Rattle.refusals.specs.Numbers.{bare}
use Rattle.opening.proofs.AllOpened.{opening-agrees}
use Rattle.opening.proofs.Zeros
use Rattle.server.specs.Masked.{mask_at, mask_for, masks_after, effect_by_policy}
use Rattle.server.specs.Replies.{outcome_in, act, event_of}
use Rattle.server.specs.Calls as claims
use Rattle.server.specs.Calls.{AsRun, acts_of, none, requested, saved}
use Rattle.server.proofs.Agree.{memory-agrees, masked-said}

pub set-exactly : claims.SetExactly
unfolding field_at tables_in users_in
set-exactly a agree k j h =
    let few = table-fit user_in user_row max_users a.tables in
    rw (agree, get_d_map (λ (f : Field). readers_of (tables_in a.tables) f.path) k (fields_in a.fields) 0 (field_of [] (truth false)) h)
    (reads-bit (tables_in a.tables) few _ j)

pub made-at-opening : claims.MadeAtOpening
made-at-opening before after texts o = o.agrees refl

pub zeros-agree : claims.ZerosAgree
zeros-agree = Zeros.zeros-agree

pub openings-agree : claims.OpeningAgrees
openings-agree before after texts answer o a = opening-agrees texts before after answer o a

pub made-when-added : claims.MadeWhenAdded
unfolding masks_after mask_for mask_at stored_masks
made-when-added s ms i l f new = go (place_in 0 f.path s.fields) refl
  where
    go : (p : Place) → place_in 0 f.path s.fields ≡ p
        → (k : ℕ) × (p ≡ Before k) × (stored_masks p (mask_at p (readers_of s.tables f.path) ms) ms ≡ take max_fields (insert_at k (readers_of s.tables f.path) ms))
    go (At k) e = never (sym (at-holds f.path s.fields k e) ∙ new)
    go (Before k) e = (k, refl, refl)

pub held-makes-none : claims.HeldMakesNone
unfolding masks_after mask_for mask_at stored_masks
held-makes-none s ms i l f held = go (place_in 0 f.path s.fields) refl
  where
    go : (p : Place) → place_in 0 f.path s.fields ≡ p → stored_masks p (mask_at p (readers_of s.tables f.path) ms) ms ≡ ms
    go (At k) e = set-get_or ms k 0
    go (Before k) e = never (sym held ∙ before-holds f.path s.fields k e)

pub serves-as-policy : claims.ServesAsPolicy
serves-as-policy a x agree = memory-agrees a x agree

-- ── Calls ──
-- one call with its outcome, and the calls behind it
step : (a b c : Arrays) (x : Act) (o : Outcome) (es : List Event) → o ≡ outcome (state_of a) x → o.state ≡ state_of b → AsRun b es c
    → AsRun a (event_of (state_of a) x o ∷ es) c
unfolding events end
step a b c x o es is left later =
    let next : state_of b ≡ (outcome (state_of a) x).state = sym left ∙ ap (λ (o : Outcome). o.state) is in
    record {
      happened = ap₂ ◌∷◌ (ap (event_of (state_of a) x) is) (later.happened ∙ ap (λ (s : State). events s (acts_of es)) next);
      ends = ap (λ (s : State). end s (acts_of es)) (sym next) ∙ later.ends;
      agrees = later.agrees;
    }

pub calls-run : claims.CallsRun
unfolding events end outcome_in effect_by_policy
calls-run a b es agree (none x) = record { happened = refl; ends = refl; agrees = agree }
calls-run a b es agree (requested x y z text given left r rest same served calls) =
    let (by-policy, again) = masked-said x y text given left r same served agree in
    step x y z (act text given) _ rest by-policy.is refl (calls-run y z rest again calls)
calls-run a b es agree (saved x z before after r rest is calls) =
    step x x z (save before) _ rest (is x.tables x.logins) refl (calls-run x z rest agree calls)

pub calls-reach : claims.CallsReach
unfolding after_opening kept
calls-reach before a b texts es o calls =
    let starts = opening-done (opened texts) o.answered o.state in
    let run = calls-run a b es (o.agrees refl) calls in
    record { starts = starts; run = run; reached = record { start = state_of a; acts = acts_of es; is_opened = starts; is_end = run.ends } }
  where
    opening-done : (d : Result Fault State) → done tt ≡ bare d → state_of a ≡ kept (state_of before) d → d ≡ done (state_of a)
    opening-done (refused f) e k = cc
    opening-done (done s) e k = ap done (sym k)
