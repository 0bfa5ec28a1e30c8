use Rattle.std.proofs.Common.{◌≡◌}
use Rattle.trace_session.specs.Sessions.{IsWhole}
use Rattle.trace_session.specs.declared.status.Status.{Status}
use Rattle.trace_session.specs.declared.status.Status.TheVariants.{Memory, Device, Stopped}
use Rattle.trace_session.proofs.Stopping.{stopped_at_part}
use Rattle.trace_session.proofs.session.run_session.Goals as goal

-- a whole session is not cut short
not_memory : (status : Status) → IsWhole status → status ≡ Memory → ⊥
not_memory status whole is = rw is at whole

not_device : (status : Status) → IsWhole status → status ≡ Device → ⊥
not_device status whole is = rw is at whole

not_stopped : (status : Status) → IsWhole status → status ≡ Stopped → ⊥
not_stopped status whole is = rw is at whole

-- why a session is cut short
memory_or_device : Memory ≡ Device → ⊥
memory_or_device is = absurd (cc is)

memory_or_stopped : Memory ≡ Stopped → ⊥
memory_or_stopped is = absurd (cc is)

device_or_stopped : Device ≡ Stopped → ⊥
device_or_stopped is = absurd (cc is)

stopped_or_memory : Stopped ≡ Memory → ⊥
stopped_or_memory is = absurd (cc is)

stopped_or_device : Stopped ≡ Device → ⊥
stopped_or_device is = absurd (cc is)

device_or_memory : Device ≡ Memory → ⊥
device_or_memory is = absurd (cc is)

pub returns-in-Ok : goal.returns-in-Ok
returns-in-Ok g c =
    let ran = c.in-Ok.ensures in
    let status = c.in-Ok.status in
    record {
      session = λ _. ran.session;
      end = λ _. ran.end;
      ended = λ _. ran.ended;
      short = λ _. ran.short;
      failures = λ _. (ran.reads, ran.writes);
      stopped = λ is. absurd (not_stopped status ran.whole is);
      part = λ is. absurd (not_stopped status ran.whole is);
      «open» = λ _ is. not_stopped status ran.whole is;
      memory = λ is. absurd (not_memory status ran.whole is);
      begun = λ is. absurd (not_memory status ran.whole is);
      unfailed = λ is. absurd (not_memory status ran.whole is);
      consumed = λ is. absurd (not_memory status ran.whole is);
      device = λ is. absurd (not_device status ran.whole is);
      front = λ is. absurd (not_device status ran.whole is);
      unwritten = λ is. absurd (not_device status ran.whole is);
      only = λ is. absurd (not_device status ran.whole is);
    }

pub returns-in-Err-Memory : goal.returns-in-Err-Memory
returns-in-Err-Memory g c =
    let ran = c.in-Err-Memory.ensures in
    record {
      session = λ no. absurd no;
      end = λ no. absurd no;
      ended = λ no. absurd no;
      short = λ no. absurd no;
      failures = λ no. absurd no;
      stopped = λ is. absurd (memory_or_stopped is);
      part = λ is. absurd (memory_or_stopped is);
      «open» = λ _ is. memory_or_stopped is;
      memory = λ _. ran.memory (cc);
      begun = λ _. ran.begun (cc);
      unfailed = λ _. (ran.unread (cc), ran.unfailed (cc));
      consumed = λ _. ran.consumed (cc);
      device = λ is. absurd (memory_or_device is);
      front = λ is. absurd (memory_or_device is);
      unwritten = λ is. absurd (memory_or_device is);
      only = λ is. absurd (memory_or_device is);
    }

pub returns-in-Err-Device : goal.returns-in-Err-Device
returns-in-Err-Device g c =
    let ran = c.in-Err-Device.ensures in
    record {
      session = λ no. absurd no;
      end = λ no. absurd no;
      ended = λ no. absurd no;
      short = λ no. absurd no;
      failures = λ no. absurd no;
      stopped = λ is. absurd (device_or_stopped is);
      part = λ is. absurd (device_or_stopped is);
      «open» = λ _ is. device_or_stopped is;
      memory = λ is. absurd (device_or_memory is);
      begun = λ is. absurd (device_or_memory is);
      unfailed = λ is. absurd (device_or_memory is);
      consumed = λ is. absurd (device_or_memory is);
      device = λ _. ran.device (cc);
      front = λ _. ran.front (cc);
      unwritten = λ _. ran.unwritten (cc);
      only = λ _. ran.only (cc);
    }

pub returns-in-Err-Stopped : goal.returns-in-Err-Stopped
returns-in-Err-Stopped g c =
    let ran = c.in-Err-Stopped.ensures in
    let contents = g.W.Sink.contents in
    record {
      session = λ no. absurd no;
      end = λ _. ran.stopped_end (cc);
      ended = λ _. ran.stopped_ended (cc);
      short = λ _. ran.stopped_short (cc);
      failures = λ _. (ran.stopped_reads (cc), ran.stopped_writes (cc));
      stopped = λ _. ran.stopped (cc);
      part = λ _. stopped_at_part c.args.config (g.G.Gate.may_answer c.args.gate.now) g.W.Sink.wants_first (g.R.Source.given c.args.reader.now) (g.R.Source.given c.attempt.new.reader) (g.R.Source.remaining c.args.reader.now) (contents c.args.writer.now) (contents c.attempt.new.writer) (g.W.Sink.heard c.args.writer.now) (g.W.Sink.heard c.attempt.new.writer) (ran.stopped (cc));
      «open» = λ is _. ran.open is (cc);
      memory = λ is. absurd (stopped_or_memory is);
      begun = λ is. absurd (stopped_or_memory is);
      unfailed = λ is. absurd (stopped_or_memory is);
      consumed = λ is. absurd (stopped_or_memory is);
      device = λ is. absurd (stopped_or_device is);
      front = λ is. absurd (stopped_or_device is);
      unwritten = λ is. absurd (stopped_or_device is);
      only = λ is. absurd (stopped_or_device is);
    }
