-- The two sides of an instance, one request later, and which of them is live.
use Rattle.std.proofs.Common.{◌≡◌, ℕ, zero, suc, ◌+◌, ◌-◌, ◌%◌, ◌≤◌, ◌==◌, Bool, true, false, ◌&&◌, if◌then◌else◌, List, [], ◌∷◌, ◌++◌, length, replicate, Option, None, Some, refl, ap, ◌∙◌, arith, eq-eqb, eqb-true}
use Rattle.std.proofs.lemmas.List.{length-set, length-replicate}
use Rattle.page_ring.specs.Events as ring
use Rattle.trace_buffer.specs.Families.{events_of, with_events, all_cleared, cpu_readings, kept_count}
use Rattle.trace_buffer.specs.Orders.{Candidate, Consumed, next_from, consume_any}
use Rattle.trace_command.specs.Paths.{File, OfInstance, OfCpu}
use Rattle.trace_command.specs.Requests.{Request, Emission, MakeInstance, RemoveInstance, WriteFile, ReadFile}
use Rattle.trace_command.specs.declared.command.Config.{Config}
use Rattle.trace_command.specs.declared.file_name.CpuFile.TheVariants as per_cpu
use Rattle.trace_command.specs.declared.file_name.TopFile.TheVariants as top
use Rattle.tracer_specification.specs.Emissions.{Emitted, emitted, emitted_bytes, is_recorded}
use Rattle.tracer_specification.specs.Rings.{up_to_limit, new_rings, with_emitted, rings_after_write, rings_after_read, rings_after, spare_after, rings_of_side, rings, other_rings}
use Rattle.tracer_specification.specs.Settings.{is_same, makes, overwrites}
use Rattle.tracer_specification.specs.Snapshots.{clears_spare, exchanges, exchange_count, live_side, written_snapshot}
use Rattle.tracer_specification.proofs.Families.{consumed_next, consumed_step}

-- ---- which side is live

pub parity-flips : (n : ℕ) → (n + 1) % 2 ≡ 1 - n % 2
parity-flips n = omega arith

pub parity-flips_back : (n : ℕ) → 1 - (1 - n % 2) ≡ n % 2
parity-flips_back n = omega arith

pub parity-apart : (n : ℕ) → (1 - n % 2 == n % 2) ≡ false
parity-apart n = by (1 - n % 2 == n % 2) refl
  where
    by : (same : Bool) → (1 - n % 2 == n % 2) ≡ same → same ≡ false
    by false is = refl
    by true is =
        let e : 1 - n % 2 ≡ n % 2 = eqb-true (1 - n % 2) (n % 2) is in
        absurd (omega (arith, e))

pub parity-apart_back : (n : ℕ) → (n % 2 == 1 - n % 2) ≡ false
parity-apart_back n = by (n % 2 == 1 - n % 2) refl
  where
    by : (same : Bool) → (n % 2 == 1 - n % 2) ≡ same → same ≡ false
    by false is = refl
    by true is =
        let e : n % 2 ≡ 1 - n % 2 = eqb-true (n % 2) (1 - n % 2) is in
        absurd (omega (arith, e))

-- a side is 0 or 1
pub live-small : (instance : Option (List ℕ)) (past : List Request) → live_side instance past ≤ 1
live-small instance past = let n = exchange_count instance past in let small : n % 2 ≤ 1 = omega arith in small

pub live-stays : (instance : Option (List ℕ)) (past : List Request) (request : Request) → makes instance request ≡ false
    → exchanges instance past request ≡ false → live_side instance (request ∷ past) ≡ live_side instance past
live-stays instance past request alive stays =
    let n = exchange_count instance past in
    let same : n + 0 ≡ n = omega arith in
    rw (alive, stays, same) refl

pub live-flips : (instance : Option (List ℕ)) (past : List Request) (request : Request) → makes instance request ≡ false
    → exchanges instance past request ≡ true → live_side instance (request ∷ past) ≡ 1 - live_side instance past
live-flips instance past request alive flips = rw (alive, flips) (parity-flips (exchange_count instance past))

pub live-made : (instance : Option (List ℕ)) (past : List Request) (request : Request) → makes instance request ≡ true
    → live_side instance (request ∷ past) ≡ 0
live-made instance past request new = rw new refl

-- ---- a side, one request later

pub side-live : (g : Config) (instance : Option (List ℕ)) (past : List Request) (request : Request)
    → rings_of_side g instance (live_side instance past) (request ∷ past) ≡ rings_after g instance past request (rings g instance past)
side-live g instance past request =
    let same : (live_side instance past == live_side instance past) ≡ true = eq-eqb (live_side instance past) (live_side instance past) refl in
    rw same refl

pub side-spare : (g : Config) (instance : Option (List ℕ)) (past : List Request) (request : Request)
    → rings_of_side g instance (1 - live_side instance past) (request ∷ past) ≡ spare_after g instance request (other_rings g instance past)
side-spare g instance past request = rw (parity-apart (exchange_count instance past)) refl

-- a request that doesn't exchange
pub record AreStaying (g : Config) (instance : Option (List ℕ)) (past : List Request) (request : Request) : Type 0 where
  pub live : rings g instance (request ∷ past) ≡ rings_after g instance past request (rings g instance past)
  pub spare : other_rings g instance (request ∷ past) ≡ spare_after g instance request (other_rings g instance past)

pub rings-stay : (g : Config) (instance : Option (List ℕ)) (past : List Request) (request : Request) → makes instance request ≡ false
    → exchanges instance past request ≡ false → AreStaying g instance past request
rings-stay g instance past request alive stays =
    let side = live-stays instance past request alive stays in
    record {
      live = ap (λ (s : ℕ). rings_of_side g instance s (request ∷ past)) side ∙ side-live g instance past request;
      spare = ap (λ (s : ℕ). rings_of_side g instance (1 - s) (request ∷ past)) side ∙ side-spare g instance past request;
    }

-- and one that does
pub record AreExchanged (g : Config) (instance : Option (List ℕ)) (past : List Request) (request : Request) : Type 0 where
  pub live : rings g instance (request ∷ past) ≡ spare_after g instance request (other_rings g instance past)
  pub spare : other_rings g instance (request ∷ past) ≡ rings_after g instance past request (rings g instance past)

pub rings-exchanged : (g : Config) (instance : Option (List ℕ)) (past : List Request) (request : Request) → makes instance request ≡ false
    → exchanges instance past request ≡ true → AreExchanged g instance past request
rings-exchanged g instance past request alive flips =
    let side = live-flips instance past request alive flips in
    let back = parity-flips_back (exchange_count instance past) in
    record {
      live = ap (λ (s : ℕ). rings_of_side g instance s (request ∷ past)) side ∙ side-spare g instance past request;
      spare = ap (λ (s : ℕ). rings_of_side g instance (1 - s) (request ∷ past)) side
          ∙ ap (λ (s : ℕ). rings_of_side g instance s (request ∷ past)) back
          ∙ side-live g instance past request;
    }

-- where a life begins both are new
after-made : (g : Config) (instance : Option (List ℕ)) (past : List Request) (request : Request) (family : List (List ring.Event))
    → makes instance request ≡ true → rings_after g instance past request family ≡ new_rings g
after-made g instance past (MakeInstance name) family new = rw new refl
after-made g instance past _ family new = absurd (cc)

spare-made : (g : Config) (instance : Option (List ℕ)) (request : Request) (family : List (List ring.Event))
    → makes instance request ≡ true → spare_after g instance request family ≡ new_rings g
spare-made g instance (MakeInstance name) family new = rw new refl
spare-made g instance _ family new = absurd (cc)

pub side-made : (g : Config) (instance : Option (List ℕ)) (side : ℕ) (past : List Request) (request : Request) → makes instance request ≡ true
    → rings_of_side g instance side (request ∷ past) ≡ new_rings g
side-made g instance side past request new = by (side == live_side instance past)
  where
    by : (live : Bool) → (if live then rings_after g instance past request (rings_of_side g instance side past)
        else spare_after g instance request (rings_of_side g instance side past)) ≡ new_rings g
    by true = after-made g instance past request (rings_of_side g instance side past) new
    by false = spare-made g instance request (rings_of_side g instance side past) new

pub record AreMade (g : Config) (instance : Option (List ℕ)) (past : List Request) (request : Request) : Type 0 where
  pub live : rings g instance (request ∷ past) ≡ new_rings g
  pub spare : other_rings g instance (request ∷ past) ≡ new_rings g

pub rings-made : (g : Config) (instance : Option (List ℕ)) (past : List Request) (request : Request) → makes instance request ≡ true
    → AreMade g instance past request
rings-made g instance past request new = record {
  live = side-made g instance (live_side instance (request ∷ past)) past request new;
  spare = side-made g instance (1 - live_side instance (request ∷ past)) past request new;
}

-- ---- each side has a ring for each CPU

length-with_events : (cpu : ℕ) (more : List ring.Event) (family : List (List ring.Event)) → length (with_events cpu more family) ≡ length family
length-with_events cpu more family = length-set family cpu (events_of family cpu ++ more)

length-consumed : (pages page_bytes reads : ℕ) (family : List (List ring.Event)) → length (consume_any pages page_bytes reads family).family ≡ length family
length-consumed pages page_bytes zero family = refl
length-consumed pages page_bytes (suc reads) family =
    ap (λ (c : Consumed). length c.family) (consumed_step pages page_bytes reads family)
    ∙ by (next_from pages page_bytes 0 family) (λ (c : Candidate). length-consumed pages page_bytes reads (with_events c.cpu (ring.Take ∷ []) family))
  where
    by : (next : Option Candidate)
        → ((c : Candidate) → length (consume_any pages page_bytes reads (with_events c.cpu (ring.Take ∷ []) family)).family
        ≡ length (with_events c.cpu (ring.Take ∷ []) family))
        → length (consumed_next pages page_bytes reads family next).family ≡ length family
    by None rest = refl
    by (Some c) rest = rest c ∙ length-with_events c.cpu (ring.Take ∷ []) family

length-emitted : (instance : Option (List ℕ)) (past : List Request) (e : Option Emitted) (family : List (List ring.Event))
    → length (with_emitted instance past e family) ≡ length family
length-emitted instance past None family = refl
length-emitted instance past (Some e) family = by (is_recorded instance past e)
  where
    put : List ring.Event
    put = ring.Put (emitted_bytes e) (overwrites instance past) ∷ []

    by : (on : Bool) → length (if on then with_events e.cpu put family else family) ≡ length family
    by true = length-with_events e.cpu put family
    by false = refl

length-written : (append : Bool) (file : Option File) (family : List (List ring.Event)) → length (rings_after_write append file family) ≡ length family
length-written false (Some (OfInstance top.Trace)) family = let none : List ring.Event = [] in length-replicate (length family) none
length-written false (Some (OfCpu cpu per_cpu.Trace)) family = length-set family cpu []
length-written append file family = refl

length-read : (g : Config) (limit : Option ℕ) (file : Option File) (family : List (List ring.Event))
    → length (rings_after_read g limit file family) ≡ length family
length-read g limit (Some (OfInstance top.TracePipe)) family =
    length-consumed g.pages g.page_bytes (up_to_limit limit (kept_count g.pages g.page_bytes family)) family
length-read g limit (Some (OfCpu cpu per_cpu.TracePipe)) family =
    length-with_events cpu (replicate (up_to_limit limit (length (cpu_readings g.pages g.page_bytes family cpu))) ring.Take) family
length-read g limit file family = refl

-- of two families of one length one
length-either : (one : Bool) (family other : List (List ring.Event)) (n : ℕ) → length family ≡ n → length other ≡ n
    → length (if one then family else other) ≡ n
length-either true family other n is others = is
length-either false family other n is others = others

length-new : (g : Config) → length (new_rings g) ≡ g.cpus
length-new g = let none : List ring.Event = [] in length-replicate g.cpus none

length-after : (g : Config) (instance : Option (List ℕ)) (past : List Request) (request : Request) (family : List (List ring.Event))
    → length family ≡ g.cpus → length (rings_after g instance past request family) ≡ g.cpus
length-after g instance past (WriteFile other file append text) family is =
    length-either (is_same instance other) (rings_after_write append file family) family g.cpus (length-written append file family ∙ is) is
length-after g instance past (ReadFile other file limit) family is =
    length-either (is_same instance other) (rings_after_read g limit file family) family g.cpus (length-read g limit file family ∙ is) is
length-after g instance past (Emission name cpu pid pairs) family is =
    length-emitted instance past (emitted past (Emission name cpu pid pairs)) family ∙ is
length-after g instance past (MakeInstance name) family is =
    length-either (makes instance (MakeInstance name)) (new_rings g) family g.cpus (length-new g) is
length-after g instance past (RemoveInstance name) family is = is

length-cleared : (family : List (List ring.Event)) → length (all_cleared family) ≡ length family
length-cleared family = let none : List ring.Event = [] in length-replicate (length family) none

length-spare : (g : Config) (instance : Option (List ℕ)) (request : Request) (family : List (List ring.Event))
    → length family ≡ g.cpus → length (spare_after g instance request family) ≡ g.cpus
length-spare g instance (WriteFile other (Some (OfInstance top.Snapshot)) append text) family is =
    length-either (is_same instance other && clears_spare (written_snapshot text)) (all_cleared family) family g.cpus (length-cleared family ∙ is) is
length-spare g instance (MakeInstance name) family is =
    length-either (makes instance (MakeInstance name)) (new_rings g) family g.cpus (length-new g) is
length-spare g instance request family is = is

pub side-has_all_cpus : (g : Config) (instance : Option (List ℕ)) (side : ℕ) (past : List Request) → length (rings_of_side g instance side past) ≡ g.cpus
side-has_all_cpus g instance side [] = length-new g
side-has_all_cpus g instance side (request ∷ past) =
    length-either (side == live_side instance past) (rings_after g instance past request (rings_of_side g instance side past))
    (spare_after g instance request (rings_of_side g instance side past)) g.cpus
    (length-after g instance past request (rings_of_side g instance side past) (side-has_all_cpus g instance side past))
    (length-spare g instance request (rings_of_side g instance side past) (side-has_all_cpus g instance side past))
