-- Calls of a device, and whether they are a service's.
use Rattle.std.specs.Prelude.{◌≡◌, ℕ, ◌==◌, Bool, false, List, [], ◌∷◌, take, drop, replicate, None, Ok}
use Rattle.fuse_serve.specs.Calls.{Call, read_call, write_call}
use Rattle.fuse_serve.specs.Exchanges.{Exchange, HasServed, device_seen}

-- a request: a header alone
abbrev pub header : List ℕ
header = 40 ∷ 0 ∷ 0 ∷ 0 ∷ replicate 36 7

-- servers of which the state is a number: they never end, and owe a message in state 1
abbrev pub never : ℕ → Bool
never server = false

abbrev pub owes_at_one : ℕ → Bool
owes_at_one server = server == 1

-- one answers each request by its own bytes, in state 0
abbrev pub Echoes : ℕ → List ℕ → ℕ → List ℕ → Type 0
Echoes before request after reply = (after ≡ 0) × (reply ≡ request)

-- one tells the byte 16, whatever it is asked
abbrev pub Tells : ℕ → List ℕ → ℕ → List ℕ → Type 0
Tells before request after reply = reply ≡ 16 ∷ []

-- in this state it may make these calls
abbrev pub MayMake : (ℕ → List ℕ → ℕ → List ℕ → Type 0) → ℕ → List Call → Type 0
MayMake answers before calls = (after : ℕ) × (exchanges : List Exchange) × (left : List ℕ)
    × HasServed answers never owes_at_one before after (device_seen [] None None) (device_seen calls None None) calls exchanges left

pub record Examples : Type 0 where
  -- a request is read, it is answered, and then the end is read
  pub answered : MayMake Echoes 0 (read_call header (Ok 40) ∷ write_call header (Ok 40) ∷ read_call [] (Ok 0) ∷ [])
  -- no second request is read before the first one's reply is written
  pub not_ahead : MayMake Echoes 0 (read_call header (Ok 40) ∷ read_call header (Ok 40) ∷ write_call header (Ok 40) ∷ write_call header (Ok 40) ∷ []) → ⊥
  -- no reply is cut in two by the server
  pub not_in_two : MayMake Echoes 0 (read_call header (Ok 40) ∷ write_call (take 20 header) (Ok 20) ∷ write_call (drop 20 header) (Ok 20) ∷ []) → ⊥
  -- what is owed is not told after a read
  pub not_late : MayMake Tells 1 (read_call header (Ok 40) ∷ write_call (16 ∷ []) (Ok 1) ∷ []) → ⊥
