use Rattle.std.proofs.Common.{◌≡◌, ◌<◌, ◌≤◌, ap, arith, ◌∙◌, length}
use Rattle.std.proofs.lemmas.List.{length-map}
use Rattle.plan_core.specs.State.{plan_record, satellite_of}
use Rattle.plan_core.proofs.TableLemmas.{contacts_all, contacts_few, contacts_step, length_in_order}
use Rattle.plan_text.specs.Timetable.{contacts_at, in_order, timetable}
use Rattle.plan_core.proofs.table.timetable.Goals as goal

pub loop-sat-preserved : goal.loop-sat-preserved
loop-sat-preserved c =
    let many = length-map c.args.plan.now.satellites (satellite_of c.args.plan.now.pool) in
    let low : c.loop-sat.sat < length (plan_record c.args.plan.now).satellites = omega (arith, many, c.sats-sats.ensures.value, c.loop-sat-test.true) in
    contacts_step c.args.station (plan_record c.args.plan.now).satellites c.loop-sat.sat c.loop-sat.contacts.items c.add_contacts.new.contacts.items low c.loop-sat.invariant c.in_ok-add_contacts.ensures

pub invariant_of-result : goal.invariant_of-result
invariant_of-result c =
    let satellites = (plan_record c.args.plan.now).satellites in
    let many = length-map c.args.plan.now.satellites (satellite_of c.args.plan.now.pool) in
    let over : length satellites ≤ c.loop-sat.sat = omega (arith, many, c.sats-sats.ensures.value, c.loop-sat-test.false) in
    let contacts : c.loop-sat.contacts.items ≡ contacts_at c.args.station satellites = contacts_all c.args.station satellites c.loop-sat.sat c.loop-sat.contacts.items over c.loop-sat.invariant in
    omega (arith, ap length c.put_in_order.ensures, length_in_order c.loop-sat.contacts.items, ap length contacts, contacts_few c.args.station satellites, c.sats-sats.ensures.few)

pub returns : goal.returns
unfolding timetable
returns c =
    let satellites = (plan_record c.args.plan.now).satellites in
    let many = length-map c.args.plan.now.satellites (satellite_of c.args.plan.now.pool) in
    let over : length satellites ≤ c.loop-sat.sat = omega (arith, many, c.sats-sats.ensures.value, c.loop-sat-test.false) in
    c.put_in_order.ensures ∙ ap in_order (contacts_all c.args.station satellites c.loop-sat.sat c.loop-sat.contacts.items over c.loop-sat.invariant)
