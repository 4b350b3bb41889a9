use Rattle.std.proofs.Common.{arith, refl}
use Rattle.top_call.proofs.top.run_for_nobody.Goals as goal

pub returns : goal.returns
returns c = record {
  usage = c.run.ensures.usage;
  window = c.run.ensures.window;
  certificate = c.run.ensures.certificate;
  causes = c.run.ensures.causes;
  completeness = λ request is held. c.run.ensures.completeness request is (λ name named rose. omega (arith, rose)) held (λ rose. omega (arith, rose));
  bad_catalogues = λ name instant fault reads holds. c.run.ensures.bad_catalogues name instant fault reads holds (λ rose. omega (arith, rose));
  bad_stations = λ name fault reads held holds. c.run.ensures.bad_stations name fault reads held holds (λ rose. omega (arith, rose));
  long_files = λ name coming longer. c.run.ensures.long_files name _ coming refl longer (λ rose. omega (arith, rose));
}
