use Rattle.std.proofs.Common.{pos}
use Rattle.fixed_iv.proofs.Promises.{difference, number, product, sum}
use Rattle.sgp4_drag.proofs.angles.drag_correction.Goals as goal

pub returns : goal.returns
returns g c = record {
  gives = λ omgcof xmcof bend eta delmo cosine t.
      let law = g.met.E.Enc.contained in
      let one = number (pos 1) 0 0 c.constant-one.ensures c.from_ratio.ensures tt tt tt in
      let three = number (pos 3) 0 0 c.constant-three.ensures c.from_ratio-2.ensures tt tt tt in
      let wave = product law c.times-wave.ensures eta cosine in
      let inner = product law c.times-inner.ensures wave (sum law c.plus.ensures three wave) in
      let turning = product law c.times-turning.ensures cosine (sum law c.plus-2.ensures three inner) in
      let epoch = product law c.times-epoch.ensures xmcof (difference law c.minus.ensures delmo one) in
      let steady = product law c.times.ensures omgcof t in
      let turned = sum law c.plus-3.ensures steady (product law c.times-2.ensures bend turning) in
      difference law c.minus-2.ensures turned epoch;
}
