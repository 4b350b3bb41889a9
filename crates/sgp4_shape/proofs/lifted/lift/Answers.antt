use Rattle.sgp4_shape.proofs.lifted.lift.Goals as goal

pub returns-clause-covers : goal.returns-clause-covers
returns-clause-covers g c k held =
    let law = g.met.A.Enc.contained in
    record {
      i = λ h. c.constant.ensures.covers h _ (rw c.bounds.ensures (law c.args.consts.now.i h _ (held.i h)));
      c = λ h. c.constant-2.ensures.covers h _ (rw c.bounds-2.ensures (law c.args.consts.now.c h _ (held.c h)));
      si = λ h. c.constant-3.ensures.covers h _ (rw c.bounds-3.ensures (law c.args.consts.now.si h _ (held.si h)));
      e = λ h. c.constant-4.ensures.covers h _ (rw c.bounds-4.ensures (law c.args.consts.now.e h _ (held.e h)));
      w0 = λ h. c.constant-5.ensures.covers h _ (rw c.bounds-5.ensures (law c.args.consts.now.w0 h _ (held.w0 h)));
      o0 = λ h. c.constant-6.ensures.covers h _ (rw c.bounds-6.ensures (law c.args.consts.now.o0 h _ (held.o0 h)));
      m0 = λ h. c.constant-7.ensures.covers h _ (rw c.bounds-7.ensures (law c.args.consts.now.m0 h _ (held.m0 h)));
      bstar = λ h. c.constant-8.ensures.covers h _ (rw c.bounds-8.ensures (law c.args.consts.now.bstar h _ (held.bstar h)));
      a = λ h. c.constant-9.ensures.covers h _ (rw c.bounds-9.ensures (law c.args.consts.now.a h _ (held.a h)));
      eta = λ h. c.constant-10.ensures.covers h _ (rw c.bounds-10.ensures (law c.args.consts.now.eta h _ (held.eta h)));
      con41 = λ h. c.constant-11.ensures.covers h _ (rw c.bounds-11.ensures (law c.args.consts.now.con41 h _ (held.con41 h)));
      c5 = λ h. c.constant-12.ensures.covers h _ (rw c.bounds-12.ensures (law c.args.consts.now.c5 h _ (held.c5 h)));
      xmcof = λ h. c.constant-13.ensures.covers h _ (rw c.bounds-13.ensures (law c.args.consts.now.xmcof h _ (held.xmcof h)));
      xlcof = λ h. c.constant-14.ensures.covers h _ (rw c.bounds-14.ensures (law c.args.consts.now.xlcof h _ (held.xlcof h)));
      aycof = λ h. c.constant-15.ensures.covers h _ (rw c.bounds-15.ensures (law c.args.consts.now.aycof h _ (held.aycof h)));
      delmo = λ h. c.constant-16.ensures.covers h _ (rw c.bounds-16.ensures (law c.args.consts.now.delmo h _ (held.delmo h)));
      sin_m0 = λ h. c.constant-17.ensures.covers h _ (rw c.bounds-17.ensures (law c.args.consts.now.sin_m0 h _ (held.sin_m0 h)));
      n0 = λ h. c.constant-18.ensures.covers h _ (rw c.bounds-18.ensures (law c.args.consts.now.n0 h _ (held.n0 h)));
      mdot = λ h. c.constant-19.ensures.covers h _ (rw c.bounds-19.ensures (law c.args.consts.now.mdot h _ (held.mdot h)));
      wdot = λ h. c.constant-20.ensures.covers h _ (rw c.bounds-20.ensures (law c.args.consts.now.wdot h _ (held.wdot h)));
      odot = λ h. c.constant-21.ensures.covers h _ (rw c.bounds-21.ensures (law c.args.consts.now.odot h _ (held.odot h)));
      c1 = λ h. c.constant-22.ensures.covers h _ (rw c.bounds-22.ensures (law c.args.consts.now.c1 h _ (held.c1 h)));
      c4 = λ h. c.constant-23.ensures.covers h _ (rw c.bounds-23.ensures (law c.args.consts.now.c4 h _ (held.c4 h)));
      omgcof = λ h. c.constant-24.ensures.covers h _ (rw c.bounds-24.ensures (law c.args.consts.now.omgcof h _ (held.omgcof h)));
      t2cof = λ h. c.constant-25.ensures.covers h _ (rw c.bounds-25.ensures (law c.args.consts.now.t2cof h _ (held.t2cof h)));
      d2 = λ h. c.constant-26.ensures.covers h _ (rw c.bounds-26.ensures (law c.args.consts.now.d2 h _ (held.d2 h)));
      nodecf = λ h. c.constant-27.ensures.covers h _ (rw c.bounds-27.ensures (law c.args.consts.now.nodecf h _ (held.nodecf h)));
      t3cof = λ h. c.constant-28.ensures.covers h _ (rw c.bounds-28.ensures (law c.args.consts.now.t3cof h _ (held.t3cof h)));
      d3 = λ h. c.constant-29.ensures.covers h _ (rw c.bounds-29.ensures (law c.args.consts.now.d3 h _ (held.d3 h)));
      t4cof = λ h. c.constant-30.ensures.covers h _ (rw c.bounds-30.ensures (law c.args.consts.now.t4cof h _ (held.t4cof h)));
      d4 = λ h. c.constant-31.ensures.covers h _ (rw c.bounds-31.ensures (law c.args.consts.now.d4 h _ (held.d4 h)));
      t5cof = λ h. c.constant-32.ensures.covers h _ (rw c.bounds-32.ensures (law c.args.consts.now.t5cof h _ (held.t5cof h)));
    }

pub returns-clause-narrow : goal.returns-clause-narrow
returns-clause-narrow g c told = record {
  i = rw c.bounds.ensures at (c.constant.ensures.narrow told);
  c = rw c.bounds-2.ensures at (c.constant-2.ensures.narrow told);
  si = rw c.bounds-3.ensures at (c.constant-3.ensures.narrow told);
  e = rw c.bounds-4.ensures at (c.constant-4.ensures.narrow told);
  w0 = rw c.bounds-5.ensures at (c.constant-5.ensures.narrow told);
  o0 = rw c.bounds-6.ensures at (c.constant-6.ensures.narrow told);
  m0 = rw c.bounds-7.ensures at (c.constant-7.ensures.narrow told);
  bstar = rw c.bounds-8.ensures at (c.constant-8.ensures.narrow told);
  a = rw c.bounds-9.ensures at (c.constant-9.ensures.narrow told);
  eta = rw c.bounds-10.ensures at (c.constant-10.ensures.narrow told);
  con41 = rw c.bounds-11.ensures at (c.constant-11.ensures.narrow told);
  c5 = rw c.bounds-12.ensures at (c.constant-12.ensures.narrow told);
  xmcof = rw c.bounds-13.ensures at (c.constant-13.ensures.narrow told);
  xlcof = rw c.bounds-14.ensures at (c.constant-14.ensures.narrow told);
  aycof = rw c.bounds-15.ensures at (c.constant-15.ensures.narrow told);
  delmo = rw c.bounds-16.ensures at (c.constant-16.ensures.narrow told);
  sin_m0 = rw c.bounds-17.ensures at (c.constant-17.ensures.narrow told);
  n0 = rw c.bounds-18.ensures at (c.constant-18.ensures.narrow told);
  mdot = rw c.bounds-19.ensures at (c.constant-19.ensures.narrow told);
  wdot = rw c.bounds-20.ensures at (c.constant-20.ensures.narrow told);
  odot = rw c.bounds-21.ensures at (c.constant-21.ensures.narrow told);
  c1 = rw c.bounds-22.ensures at (c.constant-22.ensures.narrow told);
  c4 = rw c.bounds-23.ensures at (c.constant-23.ensures.narrow told);
  omgcof = rw c.bounds-24.ensures at (c.constant-24.ensures.narrow told);
  t2cof = rw c.bounds-25.ensures at (c.constant-25.ensures.narrow told);
  d2 = rw c.bounds-26.ensures at (c.constant-26.ensures.narrow told);
  nodecf = rw c.bounds-27.ensures at (c.constant-27.ensures.narrow told);
  t3cof = rw c.bounds-28.ensures at (c.constant-28.ensures.narrow told);
  d3 = rw c.bounds-29.ensures at (c.constant-29.ensures.narrow told);
  t4cof = rw c.bounds-30.ensures at (c.constant-30.ensures.narrow told);
  d4 = rw c.bounds-31.ensures at (c.constant-31.ensures.narrow told);
  t5cof = rw c.bounds-32.ensures at (c.constant-32.ensures.narrow told);
}
