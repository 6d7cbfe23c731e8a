pub mod PortCalls
