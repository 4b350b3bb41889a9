use Rattle.std.proofs.Common.{◌≡◌, ℤ, ◌-◌, ◌/◌, to_z, of_z, w64}
use lib.IntN.{nat_abs}
use Rattle.sgp4_model.specs.Angle.{quadrant, turned}
use Rattle.sgp4_model.proofs.Pythagoras.{sine_pairs_are_bounded}
use Rattle.sgp4_model.proofs.AngleSpan.{sums}
use Rattle.trig_enc.specs.Coded.{IsCodedPair, IsSignedSine, decoded}
use Rattle.trig_enc.specs.Enclose.{HoldsNear}
use Rattle.trig_enc.proofs.WholeLemmas.{kept_narrow, kept_positive, quarters_size, rest_size}
use Rattle.trig_enc.proofs.EncloseLemmas.{centre_is, held_around, sums_coded}
use Rattle.trig_enc.proofs.enclose.sincos.Goals as goal

pub returns-in_default-clause-holds : goal.returns-in_default-clause-holds
returns-in_default-clause-holds c = λ pi number s a h held pair.
    let small = sine_pairs_are_bounded pi number s a h pair in
    (c.widest.ensures.holds s small.0, c.widest-in_default.ensures.holds a small.1)

pub returns-clause-holds : goal.returns-clause-holds
returns-clause-holds c =
    let k : ℤ = c.reduce-quarters.result.0 in
    let rest : ℤ = c.reduce-quarters.result.1 in
    let reduced = c.reduce-quarters.ensures in
    let rest_kept : to_z w64 (of_z w64 rest) ≡ rest = kept_narrow rest (rest_size reduced) in
    let sine : IsSignedSine rest c.signed_sine.result = rw rest_kept at c.signed_sine.ensures.sine in
    let size : c.unsigned_abs.result ≡ nat_abs rest = rw rest_kept at c.unsigned_abs.ensures.value in
    let pair : IsCodedPair c.signed_sine.result (to_z w64 c.cosine_of.result) (sums (decoded rest)) =
    sums_coded rest _ _ _ _ size (kept_positive c.cosine_of.result c.cosine_of.ensures.size) sine c.cosine_of.ensures.cosine in
    let after : IsCodedPair c.turn-sine.result.0 c.turn-sine.result.1 (turned (quadrant k) (sums (decoded rest))) =
    rw (kept_narrow c.signed_sine.result c.signed_sine.ensures.size, kept_narrow k (quarters_size reduced)) at c.turn-sine.ensures.pair (sums (decoded rest)) pair in
    let radius = c.in-Some.width - c.in-Some.width / 2 in
    let sines : HoldsNear c.turn-sine.result.0 radius c.around.result = rw (kept_narrow c.turn-sine.result.0 c.turn-sine.ensures.sine_size) at c.around.ensures.holds in
    let cosines : HoldsNear c.turn-sine.result.1 radius c.around-2.result = rw (kept_narrow c.turn-sine.result.1 c.turn-sine.ensures.cosine_size) at c.around-2.ensures.holds in
    held_around c.args.x c.around.result c.around-2.result _ k rest _ _ radius c.in-Some.ensures.0
    (centre_is c.args.x c.in-Some.width c.from.result c.from-2.result c.in-Some.ensures.0 c.in-Some.ensures.1 c.from.ensures c.from-2.ensures)
    reduced after sines cosines
