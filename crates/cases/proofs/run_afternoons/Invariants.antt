use Rattle.std.proofs.Common.{length, ◌-◌, ◌<◌, ◌^◌, ◌≡◌}
use Rattle.cases.proofs.run_afternoons.Given as goal

abbrev pub invariant-loop-at : goal.invariant-loop-at
invariant-loop-at g l =
    (l.at < 2 ^ 32) × (length l.users ≡ 65600) × (length l.environments ≡ 65600) × (length l.policy ≡ 65600)
    × (length l.text ≡ 65600) × (length l.input ≡ 65600)

abbrev pub decreases-loop-at : goal.decreases-loop-at
decreases-loop-at g l = length l.pack - l.at
