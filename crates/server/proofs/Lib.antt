-- Laws that the proofs cite: that serving by masks that agree is serving by the policy, what a request leaves, what a line and a push leave; the claims; and the cases of masks.
pub mod Agree
pub mod Replied
pub mod Pushed
pub mod Called
pub mod MaskedCasesHold
