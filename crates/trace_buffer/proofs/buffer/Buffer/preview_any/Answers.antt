use Rattle.std.proofs.Common.{◌≡◌, ◌^◌, ◌≤◌, List, length, min, map, ap, sym, ◌∙◌, arith}
use Rattle.std.proofs.lemmas.Result.{IfOk-weaker}
use Rattle.page_ring.specs.Events.{Event}
use Rattle.trace_buffer.specs.Buffers.{StandsFor}
use Rattle.trace_buffer.specs.CpuReadings.{taken_reading}
use Rattle.trace_buffer.specs.Families.{cpu_readings, kept_count}
use Rattle.trace_buffer.specs.Orders.{Consumed, consume_any, taken_of_cpu}
use Rattle.trace_buffer.specs.private.Nexts.{taken_in_order}
use Rattle.trace_buffer.proofs.Consumed.{taken_in_order-consumed, consumed-min}
use Rattle.trace_buffer.proofs.OneCpu.{taken_of_one, kept_of_one}
use Rattle.trace_buffer.proofs.Rings.{stands_count}
use Rattle.trace_buffer.proofs.buffer.Buffer.preview_any.Goals as goal

pub returns-clause-taken : goal.returns-clause-taken
returns-clause-taken c =
    let ahead = c.least_is_read.ensures.ahead in
    let pages = c.args.self.now.pages in
    let page_bytes = c.args.self.now.page_bytes in
    IfOk-weaker c.read_in_order.result (λ taken. map taken_reading taken.items ≡ taken_in_order c.args.limit c.in_ok-cursors.cursors.items)
    (λ taken. (family : List (List Event)) → StandsFor c.args.self.now family
    → map taken_reading taken.items ≡ (consume_any pages page_bytes (min c.args.limit (kept_count pages page_bytes family)) family).taken)
    (λ taken shown family h.
    shown ∙ ap (taken_in_order c.args.limit) (c.in_ok-cursors.ensures.cursors family h)
    ∙ taken_in_order-consumed ahead pages page_bytes c.args.limit family
    ∙ ap (λ (r : Consumed). r.taken) (sym (consumed-min ahead pages page_bytes c.args.limit family)))
    c.read_in_order.ensures

pub returns-then-cpus-eq1-clause-taken : goal.returns-then-cpus-eq1-clause-taken
returns-then-cpus-eq1-clause-taken c =
    let buffer = c.args.self.now in
    let pages = buffer.pages in
    let page_bytes = buffer.page_bytes in
    IfOk-weaker c.preview_cpu.result
    (λ taken. (family : List (List Event)) → StandsFor buffer family
    → map taken_reading taken.items ≡ taken_of_cpu pages page_bytes 0 (min c.args.limit (length (cpu_readings pages page_bytes family 0))) family)
    (λ taken. (family : List (List Event)) → StandsFor buffer family
    → map taken_reading taken.items ≡ (consume_any pages page_bytes (min c.args.limit (kept_count pages page_bytes family)) family).taken)
    (λ taken shown family h.
    shown family h
    ∙ taken_of_one c.least_is_read.ensures.ahead pages page_bytes c.args.limit family
    (stands_count buffer family h ∙ sym c.cpus.ensures.cpus ∙ c.if-cpus-eq1.true))
    c.preview_cpu.ensures.taken

pub returns-then-cpus-eq1-clause-few : goal.returns-then-cpus-eq1-clause-few
returns-then-cpus-eq1-clause-few c =
    let buffer = c.args.self.now in
    let pages = buffer.pages in
    let page_bytes = buffer.page_bytes in
    IfOk-weaker c.preview_cpu.result
    (λ taken. (family : List (List Event)) → StandsFor buffer family → length (cpu_readings pages page_bytes family 0) ≤ 2 ^ 32)
    (λ taken. (family : List (List Event)) → StandsFor buffer family → kept_count pages page_bytes family ≤ 2 ^ 35)
    (λ taken few family h.
    omega (arith, few family h, kept_of_one pages page_bytes family (stands_count buffer family h ∙ sym c.cpus.ensures.cpus ∙ c.if-cpus-eq1.true)))
    c.preview_cpu.ensures.few
