use Rattle.std.proofs.Common.{◌+◌, ◌∷◌, ◌++◌, map, take, ap, ◌∙◌, arith}
use Rattle.trace_buffer.specs.CpuReadings.{taken_reading}
use Rattle.kernel_pages.specs.Pages.{event_bytes, events_from}
use Rattle.kernel_pages.specs.Rows.{rows_of}
use Rattle.kernel_pages.proofs.FillingLemmas.{first_counted, first_has_room, first_room}
use Rattle.kernel_pages.proofs.RowLemmas.{length-rows_of}
use Rattle.kernel_pages.proofs.TakingLemmas.{counted_are_a_page, counted_are_all}
use Rattle.kernel_pages.proofs.taken.page_from.Goals as goal

pub unreachable-requires : goal.unreachable-requires
unreachable-requires c =
    first_has_room c.args.first.now.lost c.len.result c.lost_size.result c.write_data.new.out.items c.room_left.result c.in_default.is c.room_left.ensures
    c.lost_size.ensures (omega (arith, c.len.ensures, c.write_data.new.out.ok.0)) c.in_ok-time.ensures.fits

pub page_with-requires : goal.page_with-requires
page_with-requires c =
    first_room c.args.catalog.now c.args.first.now c.args.further.now c.in_ok-time.time c.len.result c.lost_size.result c.in-Some.left c.in_ok-count.count c.write_data.new.out.items
    c.room_left.result c.in_ok-time.ensures.time c.in_ok-time.ensures.data (omega (arith, c.len.ensures, c.write_data.new.out.ok.0)) c.lost_size.ensures c.room_left.ensures c.in-Some.is c.in_ok-count.ensures.count
    c.deref-2.result.now
    (c.deref-2.ensures.value ∙ c.in_ok-count.ensures.events ∙ ap (λ front. front ++ events_from c.in_ok-time.time (take c.in_ok-count.count (rows_of c.args.catalog.now (map taken_reading c.args.further.now))))
    (c.in_ok-push_event.ensures ∙ (λ i. c.in_ok-events.ensures.items i ++ event_bytes 0 (c.deref.ensures.value i))))

pub returns-clause-fits : goal.returns-clause-fits
returns-clause-fits c =
    counted_are_a_page (rows_of c.args.catalog.now (map taken_reading (c.args.first.now ∷ c.args.further.now))) (1 + c.in_ok-count.count)
    (first_counted c.args.catalog.now c.args.first.now c.args.further.now c.in_ok-time.time c.len.result c.lost_size.result c.in-Some.left c.in_ok-count.count c.write_data.new.out.items
    c.room_left.result c.in_ok-time.ensures.time c.in_ok-time.ensures.data (omega (arith, c.len.ensures, c.write_data.new.out.ok.0)) c.lost_size.ensures c.room_left.ensures c.in-Some.is c.in_ok-count.ensures.count)

pub returns-clause-all : goal.returns-clause-all
returns-clause-all c = λ n within page.
    let rows = rows_of c.args.catalog.now (map taken_reading (c.args.first.now ∷ c.args.further.now)) in
    let many = length-rows_of c.args.catalog.now (c.args.first.now ∷ c.args.further.now) in
    counted_are_all rows (1 + c.in_ok-count.count) (first_counted c.args.catalog.now c.args.first.now c.args.further.now c.in_ok-time.time c.len.result c.lost_size.result c.in-Some.left c.in_ok-count.count c.write_data.new.out.items
    c.room_left.result c.in_ok-time.ensures.time c.in_ok-time.ensures.data (omega (arith, c.len.ensures, c.write_data.new.out.ok.0)) c.lost_size.ensures c.room_left.ensures c.in-Some.is c.in_ok-count.ensures.count)
    n (omega arith) page
